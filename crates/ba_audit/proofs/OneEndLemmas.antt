-- An output passes an audit, or it has one first fault.
use Rattle.std.proofs.Common.{◌≡◌, ◌∙◌, refl, sym, ap, ap₂, ℕ, ◌+◌, ◌<◌, ◌==◌, ◌⊎◌, inl, inr, List, [], ◌∷◌, ◌++◌, length, if◌then◌else◌}
use Rattle.std.proofs.Math.Nat.{eq-or-lt_of_le}
use Rattle.std.proofs.lemmas.Bool.{cases_lt}
use Rattle.std.specs.Prelude.{nat_lt}
use Rattle.ba_audit.specs.Audits.{AllPass, FailsAt, IsAudited, IsCountFault, Output, TellsFault, basis_of, feeds, places, readings}
use Rattle.ba_audit.specs.Ends.{AuditsHaveOneEnd}
use Rattle.ba_audit.specs.Lines.{Basis, Line, Place, Reading, line_at}
use Rattle.ba_audit.specs.Tests.{IsFirstUnmet, MeetsAll, MeetsReading, rank}
use Rattle.ba_wire.specs.declared.audit.AuditFault.{AuditFault}
use Rattle.ba_wire.specs.declared.audit.AuditFault.TheVariants.{At}
use Rattle.ba_wire.specs.declared.audit.AuditReason.{AuditReason as Reason}
use Rattle.ba_wire.specs.declared.audit.AuditReason.TheVariants.{Count, Json, Shape, Kind, Version, Unread, By, Covered, Rows, Proof, Pair, Summary}

-- the test of the place
abbrev ranked : ℕ → Reason
ranked n =
    if n == 0 then Count else (if n == 1 then Json else (if n == 2 then Shape else (if n == 3 then Kind else (if n == 4 then Version else (if n == 5 then Unread
    else (if n == 6 then By else (if n == 7 then Covered else (if n == 8 then Rows else (if n == 9 then Proof else (if n == 10 then Pair else Summary))))))))))

ranked_rank : (reason : Reason) → ranked (rank reason) ≡ reason
unfolding rank
ranked_rank Count = refl
ranked_rank Json = refl
ranked_rank Shape = refl
ranked_rank Kind = refl
ranked_rank Version = refl
ranked_rank Unread = refl
ranked_rank By = refl
ranked_rank Covered = refl
ranked_rank Rows = refl
ranked_rank Proof = refl
ranked_rank Pair = refl
ranked_rank Summary = refl

-- two tests of one place are one
same_rank : (a b : Reason) → rank a ≡ rank b → a ≡ b
same_rank a b e = sym (ranked_rank a) ∙ ap ranked e ∙ ranked_rank b

one_unmet : (Meets : Reason → Type 0) (a b : Reason) → IsFirstUnmet Meets a → IsFirstUnmet Meets b → a ≡ b
one_unmet Meets a b ha hb =
    elim (cases_lt (rank a) (rank b)) [
      | inl lt ↦ absurd (ha.unmet (hb.before a lt))
      | inr le ↦ elim (eq-or-lt_of_le le) [
        | inl same ↦ sym (same_rank b a same)
        | inr lt ↦ absurd (hb.unmet (ha.before b lt))
      ]
    ]

same_count : (before : List Line) (n m : ℕ) (a b : Reason) → IsCountFault before n a → IsCountFault before m b → At n a ≡ At m b
same_count before n m a b ha hb = ap₂ At (ha.0 ∙ sym hb.0) (ha.1 ∙ sym hb.1)

module _ (basis : Basis) (ended : ℕ) where
  not_both : (before : List Line) (ps : List Place) (rs : List Reading) (n : ℕ) (reason : Reason) → AllPass basis ended before ps rs → FailsAt basis ended before ps rs n reason → ⊥
  not_both before [] [] n reason all fails = fails
  not_both before [] (r ∷ rs) n reason all fails = all
  not_both before (p ∷ ps) [] n reason all fails = all
  not_both before (p ∷ ps) (r ∷ rs) n reason all (inl first) = first.1.unmet (all.0.meets reason)
  not_both before (p ∷ ps) (r ∷ rs) n reason all (inr later) = not_both (before ++ line_at p r ∷ []) ps rs n reason all.1 later.1

  one_first : (before : List Line) (ps : List Place) (rs : List Reading) (n m : ℕ) (a b : Reason) → FailsAt basis ended before ps rs n a → FailsAt basis ended before ps rs m b → At n a ≡ At m b
  one_first before [] [] n m a b ha hb = absurd ha
  one_first before [] (r ∷ rs) n m a b ha hb = same_count before n m a b ha hb
  one_first before (p ∷ ps) [] n m a b ha hb = same_count before n m a b ha hb
  one_first before (p ∷ ps) (r ∷ rs) n m a b (inl ha) (inl hb) = ap₂ At (ha.0 ∙ sym hb.0) (one_unmet (MeetsReading (nat_lt (length before) ended) basis before p r) a b ha.1 hb.1)
  one_first before (p ∷ ps) (r ∷ rs) n m a b (inl ha) (inr hb) = absurd (ha.1.unmet (hb.0.meets a))
  one_first before (p ∷ ps) (r ∷ rs) n m a b (inr ha) (inl hb) = absurd (hb.1.unmet (ha.0.meets b))
  one_first before (p ∷ ps) (r ∷ rs) n m a b (inr ha) (inr hb) = one_first (before ++ line_at p r ∷ []) ps rs n m a b ha.1 hb.1

module _ (it : Output) where
  none : (fault : AuditFault) → IsAudited it → TellsFault it fault → ⊥
  none (At n reason) all fails = not_both (basis_of it) (feeds it.bytes) [] (places it.script) (readings it.policy it.bytes) n reason all fails

  one : (fault other : AuditFault) → TellsFault it fault → TellsFault it other → fault ≡ other
  one (At n a) (At m b) ha hb = one_first (basis_of it) (feeds it.bytes) [] (places it.script) (readings it.policy it.bytes) n m a b ha hb

pub one_end : AuditsHaveOneEnd
one_end it = record { no_fault = none it; one_fault = one it }
