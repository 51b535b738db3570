-- A question part by part.
use Rattle.std.proofs.Common.{◌≡◌, ◌∙◌, ℕ, ◌+◌, ◌<◌, List, [], ◌∷◌, ◌++◌, ap, get_or, length, sym, subst, take}
use Rattle.std.proofs.lemmas.List.{take_more}
use Rattle.std.proofs.lemmas.List.Elements.{All-contains, All-cons, All-nil, Contains-get_or}
use Rattle.std.proofs.lemmas.Slice.Zip.{all_zipped_more}
use Rattle.std.specs.List.{All, AllZip, Contains}
use Rattle.ba_comply.specs.Comply.{Strong}
use Rattle.ba_judge.specs.Judging.{Asked, HasBlockedPart, IsAllowedBy, IsBlocked, IsBlockedFor, IsByParts, Judges, NoneServes, ServesFirst, ServesFirstSince, Uncovered, part_of}
use Rattle.ba_judge.specs.Shelves.{Learns, standing_for}
use Rattle.ba_judge.specs.declared.shelves.Shelves.{Shelves}
use Rattle.ba_judge.specs.declared.verdict.Allowed.TheVariants.{Whole, Parts}
use Rattle.ba_judge.specs.declared.verdict.By.{By}
use Rattle.ba_judge.specs.declared.verdict.Judgement.{Judgement}
use Rattle.ba_judge.specs.declared.verdict.Judgement.TheVariants as judged
use Rattle.ba_kernel.specs.Asked.{QuestionFits}
use Rattle.ba_model.specs.Fit.{IsQuery, kinds_of}
use Rattle.ba_model.specs.declared.query.Part.{Part}
use Rattle.ba_model.specs.declared.query.Query.{Query}
use Rattle.ba_parts.specs.Laws.{PartIsQuery, UnionIsStrong}
use Rattle.ba_parts.specs.Parts.{alone}
use Rattle.ba_settle.specs.Settling.{Effort}

-- the same, asked with another query
abbrev pub with_query : Asked → Query → Asked
with_query asked query = record { policy = asked.policy; context = asked.context; trace = asked.trace; query = query }

-- a part, as a question of its own, fits where the whole does
pub part_fits : PartIsQuery → (asked : Asked) (part : Part) (query : Query) → query ≡ alone part → Contains asked.query.parts part → QuestionFits asked.policy asked.context asked.trace asked.query →
    QuestionFits asked.policy asked.context asked.trace query
part_fits law asked part query same there fits =
    let own = All-contains (λ p. IsQuery asked.policy.schema (kinds_of asked.policy.params) [] (alone p)) asked.query.parts part (law asked.policy.schema (kinds_of asked.policy.params) [] asked.query fits.asked) there in
    record {
      tables = fits.tables;
      rules = fits.rules;
      policy_fits = fits.policy_fits;
      context = fits.context;
      trace_fits = fits.trace_fits;
      asked = subst (IsQuery asked.policy.schema (kinds_of asked.policy.params) []) (sym same) own;
    }

pub part_allowed : (asked : Asked) (effort : Effort) (part : Part) (query : Query) (by : By) → query ≡ alone part → IsAllowedBy (with_query asked query) effort by → IsAllowedBy (part_of asked part) effort by
part_allowed asked effort part query by same h = subst (λ q. IsAllowedBy (with_query asked q) effort by) same h

-- and so is what serves it first, over shelves that judgements led to
pub part_first : (asked : Asked) (old now : Shelves) (part : Part) (query : Query) (it : Judgement) → query ≡ alone part → Learns old now → ServesFirst (with_query asked query) (standing_for now query) it →
    ServesFirstSince (part_of asked part) old it
part_first asked old now part query it same learned first = record {
  at = now;
  learned = learned;
  first = subst (λ q. ServesFirst (with_query asked q) (standing_for now q) it) same first;
}

-- what is so of the parts so far is so of one part more
pub parts_more : (R : Part → By → Type 0) (parts : List Part) (i : ℕ) (part : Part) → i < length parts → part ≡ get_or parts i part → (grounds more : List By) (by : By) → AllZip R (take i parts) grounds → R part by →
    more ≡ grounds ++ by ∷ [] → AllZip R (take (i + 1) parts) more
parts_more R parts i part below is grounds more by so_far here more_is =
    let split : take (i + 1) parts ≡ take i parts ++ part ∷ [] = take_more parts i part below ∙ ap (λ p. take i parts ++ p ∷ []) (sym is) in
    subst (AllZip R (take (i + 1) parts)) (sym more_is) (subst (λ z. AllZip R z (grounds ++ by ∷ [])) (sym split) (all_zipped_more R (take i parts) grounds part by so_far here))

-- one of the parts is blocked, and nothing serves it
pub blocked_at : (asked : Asked) (effort : Effort) (old now : Shelves) (part : Part) (query : Query) → Contains asked.query.parts part → query ≡ alone part → IsBlocked (with_query asked query) effort → Learns old now →
    NoneServes (with_query asked query) (standing_for now query) → HasBlockedPart asked effort old
blocked_at asked effort old now part query there same h learned none = record {
  part = part;
  there = there;
  reason = h.reason;
  blocked = subst (λ q. IsBlockedFor (with_query asked q) effort h.reason) same h.blocked;
  first = part_first asked old now part query (judged.Blocked h.reason) same learned none;
}

pub part_there : (parts seen : List Part) (i : ℕ) (part : Part) → seen ≡ parts → i < length seen → part ≡ get_or seen i part → Contains parts part
part_there parts seen i part same below is = subst (λ l. Contains l part) same (subst (Contains seen) (sym is) (Contains-get_or seen i part below))

all_left : {A B : Type 0} (R : A → B → Type 0) (P : A → Type 0) (f : (x : A) (y : B) → R x y → P x) (xs : List A) (ys : List B) → AllZip R xs ys → All P xs
all_left R P f [] [] h = All-nil P
all_left R P f [] (y ∷ ys) h = absurd h
all_left R P f (x ∷ xs) [] h = absurd h
all_left R P f (x ∷ xs) (y ∷ ys) h = All-cons P x xs (f x y h.0) (all_left R P f xs ys h.1)

-- where each part is allowed, the whole is
pub by_parts : UnionIsStrong → (asked : Asked) (effort : Effort) (grounds : List By) → Uncovered asked → IsByParts asked effort grounds → Judges asked effort (judged.Allowed (Parts grounds))
by_parts law asked effort grounds bare h = (
  (bare, h),
  law asked.policy asked.context asked.trace asked.query
      (all_left (λ (part : Part) (by : By). IsAllowedBy (part_of asked part) effort by) (λ (part : Part). Strong asked.policy asked.context asked.trace (alone part)) (λ part by is. is.strong) asked.query.parts grounds h.each),
)

pub as_a_whole : (asked : Asked) (effort : Effort) (by : By) → IsAllowedBy asked effort by → Judges asked effort (judged.Allowed (Whole by))
as_a_whole asked effort by h = (h.ground, h.strong)
