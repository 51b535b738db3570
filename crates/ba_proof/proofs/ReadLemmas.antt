-- The reading of a proof file, by what its bytes are.
use Rattle.std.proofs.Common.{◌≡◌, ◌∙◌, ℕ, List, Bool, true, false, cond, Option, Some, None, Result, Err, refl, ap}
use Rattle.std.specs.Str.{IsUtf8, is_utf8}
use Rattle.std.proofs.lemmas.Str.{IsUtf8-from_is_utf8, is_utf8-from_IsUtf8}
use Rattle.serde_json.specs.Data.{Data}
use Rattle.serde_json.specs.Read.{read}
use Rattle.ba_model.specs.declared.policy.Policy.{Policy}
use Rattle.ba_proof.specs.Reading.{proof_at, proof_of, proof_or}
use Rattle.ba_proof.specs.declared.fault.ProofFault.{ProofFault}
use Rattle.ba_proof.specs.declared.fault.ProofFault.TheVariants.{BadJson}
use Rattle.ba_proof.specs.declared.proof.Proof.{Proof}

-- the proof that a value is, where the text is UTF-8
under : Policy → Bool → Option Data → Result Proof ProofFault
under policy b d = cond b (proof_or policy d) (Err BadJson)

under_is : (policy : Policy) (bytes : List ℕ) → proof_of policy bytes ≡ under policy (is_utf8 bytes) (read bytes)
unfolding under proof_of
under_is policy bytes = refl

pub text_reads : (policy : Policy) (bytes : List ℕ) (d : Data) → IsUtf8 bytes → read bytes ≡ Some d → proof_of policy bytes ≡ proof_at policy d
unfolding under
text_reads policy bytes d text reading =
    under_is policy bytes ∙ ap (λ b. under policy b (read bytes)) (is_utf8-from_IsUtf8 bytes text) ∙ ap (under policy true) reading

no_proof : (policy : Policy) (b : Bool) (d : Option Data) → (b ≡ true → d ≡ None) → under policy b d ≡ Err BadJson
unfolding under
no_proof policy true d none = ap (under policy true) (none refl)
no_proof policy false d none = refl

pub no_text_reads : (policy : Policy) (bytes : List ℕ) → (IsUtf8 bytes → read bytes ≡ None) → proof_of policy bytes ≡ Err BadJson
no_text_reads policy bytes none = under_is policy bytes ∙ no_proof policy (is_utf8 bytes) (read bytes) (λ b. none (IsUtf8-from_is_utf8 bytes b))
