-- How a check ends whose finding was told.
use Rattle.std.proofs.Common.{◌≡◌, ◌∙◌, inl, ap, subst, ℕ, length, Option}
use Rattle.ba_outside.specs.Seen.{SinkSeen}
use Rattle.ba_proof.specs.declared.checking.CheckFault.{CheckFault}
use Rattle.ba_proof.specs.declared.proof.Proof.{Proof}
use Rattle.ba_input.specs.declared.detail.Detail.{Detail}
use Rattle.ba_top.specs.Checking.{EndsCheck, IsFinding, detail_found, line_found}
use Rattle.ba_top.specs.Ends.{EndsLine}
use Rattle.ba_wire.specs.Verdicts.{verdict_bytes}
use Rattle.ba_wire.specs.declared.verdict.Verdict.{Verdict}

pub finding_told : (proof : Proof) (s t : SinkSeen) (found : Option CheckFault) (steps : ℕ) (line : Verdict) (whole detail : Detail) → IsFinding proof found → steps ≡ length proof.steps → line ≡ line_found steps found → whole ≡ detail_found found
    → EndsLine (verdict_bytes line) whole s t detail → EndsCheck proof s t detail
finding_told proof s t found steps line whole detail is count line_is whole_is ends = inl (record {
  found = found;
  is = is;
  ends = subst (λ z. EndsLine (verdict_bytes (line_found (length proof.steps) found)) z s t detail) whole_is
      (subst (λ z. EndsLine (verdict_bytes z) whole s t detail) (line_is ∙ ap (λ z. line_found z found) count) ends);
})
