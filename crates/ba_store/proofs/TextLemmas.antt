-- The reading of a line, by what its bytes are.
use Rattle.std.proofs.Common.{◌≡◌, ◌∙◌, ℕ, List, Bool, true, false, cond, Option, Some, None, Result, Err, refl, ap}
use Rattle.std.specs.Str.{IsUtf8, is_utf8}
use Rattle.std.proofs.lemmas.Str.{IsUtf8-from_is_utf8, is_utf8-from_IsUtf8}
use Rattle.serde_json.specs.Data.{Data}
use Rattle.serde_json.specs.Read.{read}
use Rattle.ba_model.specs.declared.policy.Policy.{Policy}
use Rattle.ba_proof.specs.declared.proof.Proof.{Proof}
use Rattle.ba_store.specs.Reading.{draft_at, draft_of, draft_or}
use Rattle.ba_store.specs.declared.fault.LineFault.{LineFault}
use Rattle.ba_store.specs.declared.fault.LineFault.TheVariants.{Json}

-- what a value says, where the text is UTF-8
under : Policy → Bool → Option Data → Result Proof LineFault
under policy b d = cond b (draft_or policy d) (Err Json)

under_is : (policy : Policy) (bytes : List ℕ) → draft_of policy bytes ≡ under policy (is_utf8 bytes) (read bytes)
unfolding under draft_of
under_is policy bytes = refl

pub text_reads : (policy : Policy) (bytes : List ℕ) (d : Data) → IsUtf8 bytes → read bytes ≡ Some d → draft_of policy bytes ≡ draft_at policy d
unfolding under
text_reads policy bytes d text reading =
    under_is policy bytes ∙ ap (λ b. under policy b (read bytes)) (is_utf8-from_IsUtf8 bytes text) ∙ ap (under policy true) reading

no_draft : (policy : Policy) (b : Bool) (d : Option Data) → (b ≡ true → d ≡ None) → under policy b d ≡ Err Json
unfolding under
no_draft policy true d none = ap (under policy true) (none refl)
no_draft policy false d none = refl

pub no_text_reads : (policy : Policy) (bytes : List ℕ) → (IsUtf8 bytes → read bytes ≡ None) → draft_of policy bytes ≡ Err Json
no_text_reads policy bytes none = under_is policy bytes ∙ no_draft policy (is_utf8 bytes) (read bytes) (λ b. none (IsUtf8-from_is_utf8 bytes b))
