-- What is told of one more ground.
use Rattle.std.proofs.Common.{◌≡◌, ◌∙◌, ℕ, ◌+◌, ◌<◌, List, [], ◌∷◌, ◌++◌, get_or, length, map, take, sym, ap, subst}
use Rattle.std.proofs.lemmas.List.{map-append, take_more}
use Rattle.ba_evidence.specs.Evidence.{Evidence}
use Rattle.ba_evidence.specs.Said.{Based, TellsBased}
use Rattle.ba_evidence.specs.Said as base
use Rattle.ba_evidence.specs.declared.said_reads.ReadGrounds.{ReadGrounds}
use Rattle.ba_judge.specs.Judging.{Asked as Question, part_of}
use Rattle.ba_judge.specs.declared.verdict.Allowed.{Allowed}
use Rattle.ba_judge.specs.declared.verdict.Allowed.TheVariants.{Parts, Whole}
use Rattle.ba_judge.specs.declared.verdict.By.{By}
use Rattle.ba_kernel.specs.Drafts.{IsChecked}
use Rattle.ba_kernel.specs.Asked.{CheckedLinksFit}
use Rattle.ba_live.specs.Steps.{question_in}
use Rattle.ba_live.specs.Wellformed.{IsSound}
use Rattle.ba_live.specs.declared.live.Live.{Live}
use Rattle.ba_live.specs.declared.open.Open.{Open}
use Rattle.ba_model.specs.declared.policy.Parameter.{Parameter}
use Rattle.ba_model.specs.declared.policy.Policy.{Policy}
use Rattle.ba_model.specs.declared.query.Part.{Part}
use Rattle.ba_model.specs.declared.query.Query.{Query}
use Rattle.ba_wire.specs.declared.line.By.{By as Called}
use Rattle.ba_decide.specs.Evident.{AddsBased, AreBased, AreEvidence, HoldsBased, IsBased, IsBasis, IsEvidence}
use Rattle.ba_decide.specs.Text.{needed}

evidence_push : (asked : Question) (ps : List Part) (bs : List By) (es : List Evidence) (p : Part) (b : By) (e : Evidence) → AreEvidence asked ps bs es → IsEvidence (part_of asked p) b e → AreEvidence asked (ps ++ p ∷ []) (bs ++ b ∷ []) (es ++ e ∷ [])
evidence_push asked [] [] [] p b e are is = (is, tt)
evidence_push asked [] [] (x ∷ es) p b e are is = absurd are
evidence_push asked [] (y ∷ bs) es p b e are is = absurd are
evidence_push asked (q ∷ ps) [] es p b e are is = absurd are
evidence_push asked (q ∷ ps) (y ∷ bs) [] p b e are is = absurd are
evidence_push asked (q ∷ ps) (y ∷ bs) (x ∷ es) p b e are is = (are.0, evidence_push asked ps bs es p b e are.1 is)

next_take : {X : Type 0} (xs : List X) (i : ℕ) (x : X) → i < length xs → x ≡ get_or xs i x → take i xs ++ x ∷ [] ≡ take (i + 1) xs
next_take xs i x below is = ap (λ y. take i xs ++ y ∷ []) is ∙ sym (take_more xs i x below)

-- one more part is told
pub evidence_more : (asked : Question) (parts : List Part) (grounds : List By) (i : ℕ) (es : List Evidence) (p : Part) (b : By) (e : Evidence) → i < length parts → i < length grounds → p ≡ get_or parts i p → b ≡ get_or grounds i b
    → AreEvidence asked (take i parts) (take i grounds) es → IsEvidence (part_of asked p) b e → AreEvidence asked (take (i + 1) parts) (take (i + 1) grounds) (es ++ e ∷ [])
evidence_more asked parts grounds i es p b e below less part_is ground_is are is =
    subst (λ (ps : List Part). AreEvidence asked ps (take (i + 1) grounds) (es ++ e ∷ [])) (next_take parts i p below part_is)
    (subst (λ (bs : List By). AreEvidence asked (take i parts ++ p ∷ []) bs (es ++ e ∷ [])) (next_take grounds i b less ground_is)
    (evidence_push asked (take i parts) (take i grounds) es p b e are is))

based_push : (policy : Policy) (asker : Open) (qs : List Query) (bs : List Allowed) (list : List Based) (q : Query) (b : Allowed) (it : Based) → AreBased policy asker qs bs list → IsBased (question_in policy asker q) b it
    → AreBased policy asker (qs ++ q ∷ []) (bs ++ b ∷ []) (list ++ it ∷ [])
based_push policy asker [] [] [] q b it are is = (is, tt)
based_push policy asker [] [] (x ∷ list) q b it are is = absurd are
based_push policy asker [] (y ∷ bs) list q b it are is = absurd are
based_push policy asker (z ∷ qs) [] list q b it are is = absurd are
based_push policy asker (z ∷ qs) (y ∷ bs) [] q b it are is = absurd are
based_push policy asker (z ∷ qs) (y ∷ bs) (x ∷ list) q b it are is = (are.0, based_push policy asker qs bs list q b it are.1 is)

pub based_more : (policy : Policy) (asker : Open) (queries : List Query) (by : List Allowed) (i : ℕ) (list : List Based) (q : Query) (b : Allowed) (it : Based) → i < length queries → i < length by → q ≡ get_or queries i q → b ≡ get_or by i b
    → AreBased policy asker (take i queries) (take i by) list → IsBased (question_in policy asker q) b it → AreBased policy asker (take (i + 1) queries) (take (i + 1) by) (list ++ it ∷ [])
based_more policy asker queries by i list q b it below less query_is by_is are is =
    subst (λ (qs : List Query). AreBased policy asker qs (take (i + 1) by) (list ++ it ∷ [])) (next_take queries i q below query_is)
    (subst (λ (bs : List Allowed). AreBased policy asker (take i queries ++ q ∷ []) bs (list ++ it ∷ [])) (next_take by i b less by_is)
    (based_push policy asker (take i queries) (take i by) list q b it are is))

-- what is made of one more element
pub map_more : {A B C : Type 0} (f : A → C) (g : B → C) (made : List A) (from : List B) (i : ℕ) (a : A) (b : B) → i < length from → b ≡ get_or from i b → map f made ≡ map g (take i from) → f a ≡ g b
    → map f (made ++ a ∷ []) ≡ map g (take (i + 1) from)
map_more f g made from i a b below is so same =
    map-append f made (a ∷ [])
    ∙ (ap (λ xs. xs ++ f a ∷ []) so
    ∙ (ap (λ x. map g (take i from) ++ x ∷ []) same
    ∙ (sym (map-append g (take i from) (b ∷ [])) ∙ ap (map g) (next_take from i b below is))))

-- the policy of a service was checked
pub policy_checked : (it : Live) → IsSound it → CheckedLinksFit → IsChecked it.policy
policy_checked it sound links = record { links = links it.policy.schema sound.servable.tables; rules = sound.servable.rules; policy_fits = sound.servable.fits }

-- ---- one more query

pub adds_whole : (params : List Parameter) (asked : Question) (allowed : Allowed) (by : By) (name : Called) (it : Evidence) (old new : ReadGrounds) → allowed ≡ Whole by → name ≡ needed allowed → IsEvidence asked by it
    → ((before : List Based) → TellsBased params before old → TellsBased params (before ++ record { by = name; on = base.whole it } ∷ []) new) → AddsBased params asked allowed old new
adds_whole params asked allowed by name it old new allowed_is name_is is tells = record {
  based = record { by = name; on = base.whole it };
  is = record { by = name_is; on = subst (λ a. IsBasis asked a (base.whole it)) (sym allowed_is) is };
  tells = tells;
}

pub adds_parts : (params : List Parameter) (asked : Question) (allowed : Allowed) (bys : List By) (name : Called) (its : List Evidence) (old new : ReadGrounds) → allowed ≡ Parts bys → name ≡ needed allowed → AreEvidence asked asked.query.parts bys its
    → ((before : List Based) → TellsBased params before old → TellsBased params (before ++ record { by = name; on = base.parts its } ∷ []) new) → AddsBased params asked allowed old new
adds_parts params asked allowed bys name its old new allowed_is name_is are tells = record {
  based = record { by = name; on = base.parts its };
  is = record { by = name_is; on = subst (λ a. IsBasis asked a (base.parts its)) (sym allowed_is) are };
  tells = tells;
}

pub holds_none : (policy : Policy) (asker : Open) (it : ReadGrounds) → ((params : List Parameter) → TellsBased params [] it) → HoldsBased policy asker [] [] it
holds_none policy asker it tells = record { list = []; are = tt; tells = tells policy.params }

pub holds_more : (policy : Policy) (asker : Open) (queries : List Query) (by : List Allowed) (i : ℕ) (q : Query) (b : Allowed) (old new : ReadGrounds) → i < length queries → i < length by → q ≡ get_or queries i q → b ≡ get_or by i b
    → HoldsBased policy asker (take i queries) (take i by) old → AddsBased policy.params (question_in policy asker q) b old new → HoldsBased policy asker (take (i + 1) queries) (take (i + 1) by) new
holds_more policy asker queries by i q b old new below less query_is by_is holds adds = record {
  list = holds.list ++ adds.based ∷ [];
  are = based_more policy asker queries by i holds.list q b adds.based below less query_is by_is holds.are adds.is;
  tells = adds.tells holds.list holds.tells;
}
