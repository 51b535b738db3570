-- What the queries of a read rest on, one after another.
use mathlib.Core.List.{map-append}
use Rattle.std.proofs.Common.{◌≡◌, ◌≢◌, ◌∙◌, ℕ, ◌+◌, ◌<◌, ◌≤◌, ◌⊎◌, inl, inr, List, [], ◌∷◌, ◌++◌, All, Some, ap, arith, length, map, slice_get, subst, subst₂, sym, take}
use Rattle.std.proofs.lemmas.List.{take_all}
use Rattle.std.proofs.lemmas.List.Elements.{All-nil, All-push}
use Rattle.std.proofs.lemmas.Option.{same_Some, slice_get_within}
use Rattle.ba_comply.specs.declared.trace.TraceEntry.{TraceEntry}
use Rattle.ba_evidence.specs.Evidence.{Evidence, EvidenceHasBits, TellsGrounds}
use Rattle.ba_evidence.specs.declared.reads.Rests.{Rests}
use Rattle.ba_model.specs.declared.policy.Context.{Context}
use Rattle.ba_model.specs.declared.policy.Policy.{Policy}
use Rattle.ba_model.specs.declared.query.Query.{Query}
use Rattle.ba_session.specs.declared.reply.By.{By}
use Rattle.ba_tables.proofs.IndexLemmas.{take_one}
use Rattle.ba_top.proofs.HistoryLemmas.{same_or_not}
use Rattle.ba_top.specs.Audited.{GroundHasBits, IsFew}
use Rattle.ba_top.specs.Evidence.{GroundCloses, GroundsClose, evidence_of}

module _ (policy : Policy) (contexts : List Context) (trace : List TraceEntry) (request : ℕ) (queries : List Query) (bys : List By) where
  -- what the first so many queries rest on is taken in
  pub record RestsOn (rests : Rests) (i : ℕ) : Type 0 where
    pub told : TellsGrounds policy.params (map (evidence_of trace) (take i bys)) rests
    pub close : (n : ℕ) (query : Query) (it : By) → n < i → slice_get queries n ≡ Some query → slice_get bys n ≡ Some it → GroundCloses policy contexts trace request query it
    pub bits : All (GroundHasBits trace) (take i bys)

  pub rests_none : (rests : Rests) → TellsGrounds policy.params [] rests → RestsOn rests 0
  rests_none rests h = record {
    told = h;
    close = λ n query it low asked by. absurd (omega (arith, low));
    bits = All-nil (GroundHasBits trace);
  }

  pub rests_more : (old new : Rests) (i : ℕ) (query : Query) (it : By) → slice_get queries i ≡ Some query → slice_get bys i ≡ Some it → RestsOn old i →
      ((before : List Evidence) → TellsGrounds policy.params before old → TellsGrounds policy.params (before ++ evidence_of trace it ∷ []) new) →
      GroundCloses policy contexts trace request query it → EvidenceHasBits (evidence_of trace it) → IsFew (evidence_of trace it) → RestsOn new (i + 1)
  rests_more old new i query it asked_at by_at h tells closes bits few = record {
    told = subst (λ z. TellsGrounds policy.params z new) (sym told_is) (tells (map (evidence_of trace) (take i bys)) h.told);
    close = λ n q b low asked by. close_at n q b low asked by (same_or_not n i);
    bits = subst (All (GroundHasBits trace)) (sym (take_one bys i it by_at)) (All-push (GroundHasBits trace) (take i bys) it h.bits (record { bits = bits; few = few }));
  }
    where
      told_is : map (evidence_of trace) (take (i + 1) bys) ≡ map (evidence_of trace) (take i bys) ++ evidence_of trace it ∷ []
      told_is = ap (map (evidence_of trace)) (take_one bys i it by_at) ∙ map-append (evidence_of trace) (take i bys) (it ∷ [])

      close_at : (n : ℕ) (q : Query) (b : By) → n < i + 1 → slice_get queries n ≡ Some q → slice_get bys n ≡ Some b → (n ≡ i) ⊎ (n ≢ i) → GroundCloses policy contexts trace request q b
      close_at n q b low asked by (inl e) =
          let query_is : query ≡ q = same_Some query q (sym asked_at ∙ ap (slice_get queries) (sym e) ∙ asked) in
          let it_is : it ≡ b = same_Some it b (sym by_at ∙ ap (slice_get bys) (sym e) ∙ by) in
          subst₂ (λ x y. GroundCloses policy contexts trace request x y) query_is it_is closes
      close_at n q b low asked by (inr differ) = h.close n q b (omega (arith, low, differ)) asked by

  -- no query is left
  module _ (rests : Rests) (i : ℕ) (past : length bys ≤ i) (h : RestsOn rests i) where
    pub told_all : TellsGrounds policy.params (map (evidence_of trace) bys) rests
    told_all = subst (λ z. TellsGrounds policy.params (map (evidence_of trace) z) rests) (take_all i bys past) h.told

    pub close_all : GroundsClose policy contexts trace request queries bys
    close_all = λ n query it asked by. let low = slice_get_within bys n it by in h.close n query it (omega (arith, low, past)) asked by

    pub bits_all : All (GroundHasBits trace) bys
    bits_all = subst (All (GroundHasBits trace)) (take_all i bys past) h.bits
