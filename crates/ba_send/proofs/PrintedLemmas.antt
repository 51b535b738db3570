-- The text that is printed part by part is the text that is sent.
use Rattle.std.proofs.Common.{◌≡◌, ℕ, ◌<◌, ◌≤◌, Bool, nat_lt, List, [], ◌∷◌, ◌++◌, length, map, get_or, codes, refl, sym, ap, subst, ◌∙◌, arith}
use Rattle.std.proofs.lemmas.List.{length-map}
use Rattle.ba_keys.specs.Literals.{part_with}
use Rattle.ba_model.specs.declared.policy.Context.{Context}
use Rattle.ba_model.specs.declared.query.Part.{Part}
use Rattle.ba_model.specs.declared.query.Query.{Query}
use Rattle.ba_model.specs.declared.schema.Schema.{Schema}
use Rattle.ba_model.specs.declared.value.Value.{Value}
use Rattle.ba_target.specs.declared.target.Target.{Target}
use Rattle.ba_send.specs.Sent.{following, joined, part_pieces, pieces_text, selected_pieces, sent_bytes, word}
use Rattle.ba_send.proofs.GrowLemmas.{behind, grows_two, split_first}
use Rattle.ba_send.proofs.ReadsLemmas.{parts_text, sent_is, text_is}

abbrev text_of : Target → Schema → List Part → List ℕ
text_of target s parts = parts_text target s (nat_lt 1 (length parts)) parts

empty_text : (target : Target) (s : Schema) (f : Part → Part) (parts : List Part) → length parts < 1 → [] ≡ text_of target s (map f parts)
unfolding joined
empty_text target s f [] lt = refl
empty_text target s f (p ∷ ps) lt = absurd (omega (arith, lt))

all_text : (target : Target) (s : Schema) (f : Part → Part) (parts : List Part) (first : Part) (several : Bool) (b d : List ℕ) → several ≡ nat_lt 1 (length parts)
    → 1 ≤ length parts → first ≡ get_or parts 0 first
    → b ≡ codes "SELECT" ++ pieces_text target.database (selected_pieces target s several (f first))
    → d ≡ b ++ pieces_text target.database (following (word (codes "UNION")) (map (part_pieces target s several) (map f (behind parts))))
    → d ≡ text_of target s (map f parts)
all_text target s f parts first several b d many le is e g =
    let split : parts ≡ first ∷ behind parts = split_first parts first le is in
    let same : several ≡ nat_lt 1 (length (map f parts)) = many ∙ ap (nat_lt 1) (sym (length-map parts f)) in
    grows_two target.database (codes "SELECT") b d _ _ e g ∙ sym (text_is target s several (f first) (map f (behind parts)))
    ∙ ap (λ (ps : List Part). parts_text target s several (map f ps)) (sym split)
    ∙ ap (λ (k : Bool). parts_text target s k (map f parts)) same

-- ---- of the query

pub printed_none : (target : Target) (s : Schema) (c : Context) (q : Query) (parts : List Part) (out : List ℕ) → parts ≡ q.parts → length parts < 1 → out ≡ []
    → out ≡ sent_bytes target s c q
printed_none target s c q parts out same lt e =
    e ∙ empty_text target s (part_with 0 c.values) q.parts (subst (λ (ps : List Part). length ps < 1) same lt) ∙ sym (sent_is target s c q)

pub printed_more : (target : Target) (s : Schema) (c : Context) (q : Query) (parts : List Part) (values : List Value) (several : Bool) (first : Part) (o a b d : List ℕ)
    → parts ≡ q.parts → values ≡ c.values → several ≡ nat_lt 1 (length parts) → 1 ≤ length parts → first ≡ get_or parts 0 first → o ≡ [] → a ≡ o ++ codes "SELECT"
    → b ≡ a ++ pieces_text target.database (selected_pieces target s several (part_with 0 values first))
    → d ≡ b ++ pieces_text target.database (following (word (codes "UNION")) (map (part_pieces target s several) (map (part_with 0 values) (behind parts))))
    → d ≡ sent_bytes target s c q
printed_more target s c q parts values several first o a b d same held many le is none e g h =
    let start : a ≡ codes "SELECT" = e ∙ ap (λ (t : List ℕ). t ++ codes "SELECT") none in
    let text : b ≡ codes "SELECT" ++ pieces_text target.database (selected_pieces target s several (part_with 0 c.values first)) =
    g ∙ ap (λ (t : List ℕ). t ++ pieces_text target.database (selected_pieces target s several (part_with 0 values first))) start
    ∙ ap (λ (vs : List Value). codes "SELECT" ++ pieces_text target.database (selected_pieces target s several (part_with 0 vs first))) held in
    let rest : d ≡ b ++ pieces_text target.database (following (word (codes "UNION")) (map (part_pieces target s several) (map (part_with 0 c.values) (behind parts)))) =
    h ∙ ap (λ (vs : List Value). b ++ pieces_text target.database (following (word (codes "UNION")) (map (part_pieces target s several) (map (part_with 0 vs) (behind parts))))) held in
    all_text target s (part_with 0 c.values) parts first several b d many le is text rest
    ∙ ap (λ (ps : List Part). text_of target s (map (part_with 0 c.values) ps)) same ∙ sym (sent_is target s c q)
