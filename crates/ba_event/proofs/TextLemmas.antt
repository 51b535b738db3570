-- The reading of told rows, by what the bytes are.
use Rattle.std.proofs.Common.{◌≡◌, ◌∙◌, ℕ, List, Bool, true, false, cond, Option, Some, None, Result, Ok, Err, refl, sym, ap}
use Rattle.std.specs.Str.{IsUtf8, is_utf8}
use Rattle.std.proofs.lemmas.Str.{IsUtf8-from_is_utf8, is_utf8-from_IsUtf8}
use Rattle.serde_json.specs.Data.{Data}
use Rattle.serde_json.specs.Read.{read}
use Rattle.ba_script.specs.Script.{IsJson}
use Rattle.ba_event.proofs.ToldLemmas.{told_not}
use Rattle.ba_event.specs.Events.{told_at, told_of, told_or}
use Rattle.ba_event.specs.declared.event.Event.{Event}
use Rattle.ba_event.specs.declared.event.EventFault.{EventFault}
use Rattle.ba_event.specs.declared.event.EventFault.TheVariants.{Json}

-- what a value tells, where the text is UTF-8
under : Bool → Option Data → Result Event EventFault
under b d = cond b (told_or d) (Err Json)

under_is : (bytes : List ℕ) → told_of bytes ≡ under (is_utf8 bytes) (read bytes)
unfolding under told_of
under_is bytes = refl

pub told_of_json : (bytes : List ℕ) (d : Data) → IsUtf8 bytes → read bytes ≡ Some d → told_of bytes ≡ told_at d
unfolding under
told_of_json bytes d text reading = under_is bytes ∙ ap (λ b. under b (read bytes)) (is_utf8-from_IsUtf8 bytes text) ∙ ap (under true) reading

no_value : (b : Bool) (d : Option Data) → (b ≡ true → d ≡ None) → under b d ≡ Err Json
unfolding under
no_value true d none = ap (under true) (none refl)
no_value false d none = refl

pub told_of_no_json : (bytes : List ℕ) → (IsUtf8 bytes → read bytes ≡ None) → told_of bytes ≡ Err Json
told_of_no_json bytes none = under_is bytes ∙ no_value (is_utf8 bytes) (read bytes) (λ b. none (IsUtf8-from_is_utf8 bytes b))

found : (bytes : List ℕ) (it : Event) (b : Bool) (o : Option Data) → is_utf8 bytes ≡ b → read bytes ≡ o → under b o ≡ Ok it → (d : Data) × IsJson bytes d × (told_at d ≡ Ok it)
unfolding under
found bytes it true (Some d) text reading e = (d, record { utf8 = IsUtf8-from_is_utf8 bytes text; reads = reading }, e)
found bytes it true None text reading e = cc e
found bytes it false o text reading e = cc e

pub json_of_told : (bytes : List ℕ) (it : Event) → told_of bytes ≡ Ok it → (d : Data) × IsJson bytes d × (told_at d ≡ Ok it)
json_of_told bytes it e = found bytes it (is_utf8 bytes) (read bytes) refl refl (sym (under_is bytes) ∙ e)

pub told_json : (bytes : List ℕ) → told_of bytes ≡ Err Json → (d : Data) → ¬ (IsJson bytes d)
told_json bytes e d h = told_not d (sym (told_of_json bytes d h.utf8 h.reads) ∙ e)
