-- A read judges query after query.
use Rattle.std.proofs.Common.{◌≡◌, ◌∙◌, ℕ, suc, ◌+◌, ◌<◌, ◌≤◌, List, [], ◌∷◌, ◌++◌, length, take, drop, get_or, drop-cons, add-one, sym, ap, subst}
use Rattle.std.proofs.lemmas.List.{take-append-drop, take_more}
use Rattle.std.proofs.lemmas.List.Elements.{All-get_or}
use Rattle.std.proofs.lemmas.Slice.Zip.{all_zipped_more}
use Rattle.ba_judge.specs.Judging.{Asked, Judges, LooksAtParts, ServesFirst}
use Rattle.ba_judge.specs.Reading.{AreAllowed, AreFit, IsBlockedBehind, IsJudgedSince, Reader, asked_by}
use Rattle.ba_judge.specs.Shelves.{Learns, standing_for}
use Rattle.ba_judge.specs.declared.shelves.Shelves.{Shelves}
use Rattle.ba_judge.specs.declared.verdict.Allowed.{Allowed}
use Rattle.ba_judge.specs.declared.verdict.Judgement.{Judgement}
use Rattle.ba_judge.specs.declared.verdict.Judgement.TheVariants as judged
use Rattle.ba_judge.specs.declared.verdict.Reason.{Reason}
use Rattle.ba_kernel.specs.Asked.{QuestionFits}
use Rattle.ba_model.specs.declared.query.Query.{Query}
use Rattle.ba_settle.specs.Settling.{Effort}

module _ (it : Reader) (queries : List Query) (i : ℕ) (query : Query) (below : i < length queries) (is : query ≡ get_or queries i query) where
  pub fit_at : AreFit it queries → QuestionFits it.policy it.context it.trace query
  fit_at all = subst (QuestionFits it.policy it.context it.trace) (sym is) (All-get_or (λ q. QuestionFits it.policy it.context it.trace q) queries i query below all)

  pub allowed_more : (effort : Effort) (old : Shelves) (grounds more : List Allowed) (ground : Allowed) → AreAllowed it effort old (take i queries) grounds →
      IsJudgedSince (asked_by it query) effort old (judged.Allowed ground) → more ≡ grounds ++ ground ∷ [] → AreAllowed it effort old (take (i + 1) queries) more
  allowed_more effort old grounds more ground so_far here more_is =
      let split : take (i + 1) queries ≡ take i queries ++ query ∷ [] = take_more queries i query below ∙ ap (λ q. take i queries ++ q ∷ []) (sym is) in
      subst (λ z. AreAllowed it effort old (take (i + 1) queries) z) (sym more_is)
      (subst (λ z. AreAllowed it effort old z (grounds ++ ground ∷ [])) (sym split)
      (all_zipped_more (λ q g. IsJudgedSince (asked_by it q) effort old (judged.Allowed g)) (take i queries) grounds query ground so_far here))

  pub blocked_here : (effort : Effort) (old : Shelves) (grounds : List Allowed) (reason : Reason) → AreAllowed it effort old (take i queries) grounds → IsJudgedSince (asked_by it query) effort old (judged.Blocked reason) →
      IsBlockedBehind it effort old queries grounds reason
  blocked_here effort old grounds reason so_far here = record {
    front = take i queries;
    query = query;
    back = drop (i + 1) queries;
    are = sym (take-append-drop i queries) ∙ ap (λ z. take i queries ++ z) (drop-cons queries i query below ∙ ap (λ z. z ∷ drop (suc i) queries) (sym is) ∙ ap (λ z. query ∷ drop z queries) (sym (add-one i)));
    allowed = so_far;
    blocked = here;
  }

-- what the judgement of one query tells
pub judged_since : (asked : Asked) (effort : Effort) (old now : Shelves) (it told : Judgement) → it ≡ told → Learns old now → Judges asked effort it →
    (length asked.query.parts < 2 → ServesFirst asked (standing_for now asked.query) it) → (2 ≤ length asked.query.parts → LooksAtParts asked effort now it) → IsJudgedSince asked effort old told
judged_since asked effort old now it told e learned judges one several =
    subst (IsJudgedSince asked effort old) e (record { judges = judges; at = now; learned = learned; prefers = record { one = one; several = several } })
