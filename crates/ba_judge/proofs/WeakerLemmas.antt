-- The weaker trace first.
use Rattle.std.proofs.Common.{◌≡◌, ◌<◌, ◌≤◌, inl, inr, List, [], length, Option, Some, None, refl, sym, subst}
use Rattle.std.specs.List.{All, AllZip}
use Rattle.std.specs.Prelude.{MatchOption}
use Rattle.ba_comply.proofs.ComplyLemmas.{All-from_contains}
use Rattle.std.proofs.lemmas.List.Elements.{All-contains}
use Rattle.ba_comply.specs.Comply.{Strong}
use Rattle.ba_comply.specs.declared.trace.TraceEntry.{TraceEntry}
use Rattle.ba_kernel.specs.Asked.{MayBeOfKind, QuestionFits, RecordFits}
use Rattle.ba_model.specs.Fit.{kinds_of}
use Rattle.ba_model.specs.declared.policy.Policy.{Policy}
use Rattle.ba_model.specs.declared.schema.Kind.{Kind}
use Rattle.ba_settle.specs.Settling.{Effort}
use Rattle.ba_weaker.proofs.LawLemmas.{its_left}
use Rattle.ba_weaker.specs.Laws.{WeakerIsQuery, WeakerRowsProve}
use Rattle.ba_weaker.specs.Weaker.{AreWeaker, IsWeaker, IsWeakerTrace, NoneHasWeaker}
use Rattle.ba_judge.specs.Judging.{Asked, Judges, LooksAtParts, Prefers, PrefersWeaker, ServesFirst, TriesWeaker, WeakerBlocks, WeakerGives, after_trace, judged_by, weaker_by}
use Rattle.ba_judge.specs.Judging.TriesWeaker.{untried, tried}
use Rattle.ba_judge.specs.Judging.WeakerBlocks.{is_none, is_blocked}
use Rattle.ba_judge.specs.Shelves.{Learns, standing_for}
use Rattle.ba_judge.specs.declared.shelves.Shelves.{Shelves}
use Rattle.ba_judge.specs.declared.union.Outcome.{Outcome}
use Rattle.ba_judge.specs.declared.union.Outcome.TheVariants as outcome
use Rattle.ba_judge.specs.declared.verdict.Allowed.{Allowed}
use Rattle.ba_judge.specs.declared.verdict.By.TheVariants as by
use Rattle.ba_judge.specs.declared.verdict.Judgement.{Judgement}
use Rattle.ba_judge.specs.declared.verdict.Judgement.TheVariants as judged

-- ---- the weaker trace fits

record_fits : WeakerIsQuery → (policy : Policy) (entry weaker : TraceEntry) → IsWeaker entry weaker → RecordFits policy entry → RecordFits policy weaker
record_fits law policy entry weaker h fits =
    elim h.query [
      | inl less ↦
          let its = law policy.schema (kinds_of policy.params) [] entry.query weaker.query fits.query less in
          record {
            query = its.is_query_too;
            rows = subst (λ (kinds : List Kind). All (AllZip MayBeOfKind kinds) weaker.rows) (sym its.kinds) rows;
          }
      | inr stays ↦ same_fits stays.same
    ]
  where
    rows : All (AllZip MayBeOfKind fits.query.fits.kinds) weaker.rows
    rows = subst (All (AllZip MayBeOfKind fits.query.fits.kinds)) (sym h.rows) fits.rows

    same_fits : weaker.query ≡ entry.query → RecordFits policy weaker
    same_fits same = subst (RecordFits policy) (λ i. record { query = sym same i; rows = sym h.rows i }) fits

pub trace_fits : WeakerIsQuery → (policy : Policy) (trace weaker : List TraceEntry) → AreWeaker trace weaker → All (RecordFits policy) trace → All (RecordFits policy) weaker
trace_fits law policy trace weaker are fit =
    All-from_contains (RecordFits policy) weaker (λ entry there.
    let its = its_left IsWeaker trace weaker entry are there in
    record_fits law policy its.0 entry its.2 (All-contains (RecordFits policy) trace its.0 fit its.1))

pub question_fits : WeakerIsQuery → (asked : Asked) (trace : List TraceEntry) → IsWeakerTrace asked.trace trace → QuestionFits asked.policy asked.context asked.trace asked.query →
    QuestionFits asked.policy asked.context trace asked.query
question_fits law asked trace weaker fits = record {
  tables = fits.tables;
  rules = fits.rules;
  policy_fits = fits.policy_fits;
  context = fits.context;
  trace_fits = trace_fits law asked.policy asked.trace trace weaker.each fits.trace_fits;
  asked = fits.asked;
}

-- ---- what a judgement prefers

pub prefers_of : (asked : Asked) (effort : Effort) (old : Shelves) (it : Judgement) → (length asked.query.parts < 2 → ServesFirst asked (standing_for old asked.query) it) → (2 ≤ length asked.query.parts → LooksAtParts asked effort old it) →
    Prefers asked effort old it
prefers_of asked effort old it one several = record { one = one; several = several }

-- what comes out after the weaker trace
pub gives_weaker : WeakerRowsProve → (asked : Asked) (effort : Effort) (old new : Shelves) (trace : List TraceEntry) → IsWeakerTrace asked.trace trace → (it : Outcome) → Judges (after_trace asked trace) effort (judged_by it) →
    Prefers (after_trace asked trace) effort old (judged_by it) → Learns old new → WeakerGives asked effort old new (weaker_by it)
gives_weaker law asked effort old new trace weaker it judges prefers learned = by_case it judges prefers
  where
    after : Strong asked.policy asked.context trace asked.query → Strong asked.policy asked.context asked.trace asked.query
    after = law asked.policy asked.context asked.trace trace asked.query weaker.each

    by_case : (it : Outcome) → Judges (after_trace asked trace) effort (judged_by it) → Prefers (after_trace asked trace) effort old (judged_by it) → WeakerGives asked effort old new (weaker_by it)
    by_case (outcome.Whole (by.Cover cover)) h p = ((h.0, after h.1), tt)
    by_case (outcome.Whole (by.Template template found)) h p = ((record { trace = trace; weaker = weaker; so = (h.0.0, h.0) }, after h.1), record { trace = trace; weaker = weaker; so = p })
    by_case (outcome.Whole (by.Proof steps)) h p = ((record { trace = trace; weaker = weaker; so = (h.0.0, h.0) }, after h.1), record { trace = trace; weaker = weaker; so = p })
    by_case (outcome.Parts grounds) h p = ((record { trace = trace; weaker = weaker; so = h.0 }, after h.1), record { trace = trace; weaker = weaker; so = p })
    by_case (outcome.Blocked reason) h p = is_blocked (record { trace = trace; weaker = weaker; so = record { reason = reason; blocked = h; prefers = p } }) learned

pub gives_at : WeakerRowsProve → (asked : Asked) (effort : Effort) (old new : Shelves) (trace : List TraceEntry) → IsWeakerTrace asked.trace trace → (it : Outcome) → Judges (after_trace asked trace) effort (judged_by it) →
    (length asked.query.parts < 2 → ServesFirst (after_trace asked trace) (standing_for old asked.query) (judged_by it)) → (2 ≤ length asked.query.parts → LooksAtParts (after_trace asked trace) effort old (judged_by it)) → Learns old new →
    (found : Option Allowed) → found ≡ weaker_by it → WeakerGives asked effort old new found
gives_at law asked effort old new trace weaker it judges one several learned found found_is =
    subst (WeakerGives asked effort old new) (sym found_is)
    (gives_weaker law asked effort old new trace weaker it judges (prefers_of (after_trace asked trace) effort old (judged_by it) one several) learned)

pub gives_none : (asked : Asked) (effort : Effort) (old : Shelves) (found : Option (List TraceEntry)) → found ≡ None → MatchOption found (NoneHasWeaker asked.trace) (IsWeakerTrace asked.trace) → WeakerGives asked effort old old None
gives_none asked effort old found e h = is_none (subst (λ (o : Option (List TraceEntry)). MatchOption o (NoneHasWeaker asked.trace) (IsWeakerTrace asked.trace)) e h) refl

pub weaker_at : (trace : List TraceEntry) (found : Option (List TraceEntry)) (weaker : List TraceEntry) → found ≡ Some weaker → MatchOption found (NoneHasWeaker trace) (IsWeakerTrace trace) → IsWeakerTrace trace weaker
weaker_at trace found weaker e h = subst (λ (o : Option (List TraceEntry)). MatchOption o (NoneHasWeaker trace) (IsWeakerTrace trace)) e h

-- what allows the question after the weaker trace
pub allowed_weaker : (asked : Asked) (effort : Effort) (old new : Shelves) (found : Option Allowed) (it : Allowed) → found ≡ Some it → WeakerGives asked effort old new found →
    Judges asked effort (judged.Allowed it) × PrefersWeaker asked effort old (judged.Allowed it)
allowed_weaker asked effort old new found it e h = subst (WeakerGives asked effort old new) e h

tries : (asked : Asked) (effort : Effort) (old now : Shelves) (it : Judgement) → WeakerBlocks asked effort old now → Prefers asked effort now it → TriesWeaker asked effort old it
tries asked effort old now it (is_none none same) p = untried none (subst (λ s. Prefers asked effort s it) same p)
tries asked effort old now it (is_blocked so learned) p = tried so (record { at = now; learned = learned; prefers = p })

-- what comes out after the trace itself
pub after_weaker : (asked : Asked) (effort : Effort) (old now : Shelves) (found : Option Allowed) → found ≡ None → WeakerGives asked effort old now found → (it : Outcome) →
    (length asked.query.parts < 2 → ServesFirst asked (standing_for now asked.query) (judged_by it)) → (2 ≤ length asked.query.parts → LooksAtParts asked effort now (judged_by it)) → (told : Judgement) → told ≡ judged_by it →
    PrefersWeaker asked effort old told
after_weaker asked effort old now found e gives it one several told told_is =
    subst (PrefersWeaker asked effort old) (sym told_is) (by_case it (prefers_of asked effort now (judged_by it) one several))
  where
    blocks : WeakerBlocks asked effort old now
    blocks = subst (WeakerGives asked effort old now) e gives

    by_case : (it : Outcome) → Prefers asked effort now (judged_by it) → PrefersWeaker asked effort old (judged_by it)
    by_case (outcome.Whole (by.Cover cover)) p = tt
    by_case (outcome.Whole (by.Template template m)) p = tries asked effort old now (judged_by (outcome.Whole (by.Template template m))) blocks p
    by_case (outcome.Whole (by.Proof steps)) p = tries asked effort old now (judged_by (outcome.Whole (by.Proof steps))) blocks p
    by_case (outcome.Parts grounds) p = tries asked effort old now (judged_by (outcome.Parts grounds)) blocks p
    by_case (outcome.Blocked reason) p = tries asked effort old now (judged_by (outcome.Blocked reason)) blocks p

-- the same under the judgement's own name
pub judges_told : (asked : Asked) (effort : Effort) (it : Outcome) (told : Judgement) → told ≡ judged_by it → Judges asked effort (judged_by it) → Judges asked effort told
judges_told asked effort it told e h = subst (Judges asked effort) (sym e) h

pub first_told : (asked : Asked) (old : Shelves) (it : Outcome) (told : Judgement) → told ≡ judged_by it → (length asked.query.parts < 2 → ServesFirst asked (standing_for old asked.query) (judged_by it)) →
    length asked.query.parts < 2 → ServesFirst asked (standing_for old asked.query) told
first_told asked old it told e h few = subst (ServesFirst asked (standing_for old asked.query)) (sym e) (h few)

pub parts_told : (asked : Asked) (effort : Effort) (old : Shelves) (it : Outcome) (told : Judgement) → told ≡ judged_by it → (2 ≤ length asked.query.parts → LooksAtParts asked effort old (judged_by it)) →
    2 ≤ length asked.query.parts → LooksAtParts asked effort old told
parts_told asked effort old it told e h many = subst (LooksAtParts asked effort old) (sym e) (h many)
