-- The reading of a script's line, by what the bytes are.
use Rattle.std.proofs.Common.{◌≡◌, ◌⊎◌, ◌∙◌, inl, inr, ℕ, List, Bool, true, false, cond, Option, Some, None, Result, Ok, Err, refl, sym, ap}
use Rattle.std.specs.Str.{IsUtf8, is_utf8}
use Rattle.std.proofs.lemmas.Str.{IsUtf8-from_is_utf8, is_utf8-from_IsUtf8}
use Rattle.serde_json.specs.Data.{Data}
use Rattle.serde_json.specs.Read.{read}
use Rattle.ba_script.specs.declared.line.ScriptLine.{ScriptLine}
use Rattle.ba_script.specs.declared.fault.LineFault.{LineFault}
use Rattle.ba_script.specs.declared.fault.LineFault.TheVariants.{Json}
use Rattle.ba_script.specs.Script.{IsJson, line_at, line_or, script_line_of}

-- the line that a value is, where the text is UTF-8
under : Bool → Option Data → Result ScriptLine LineFault
under b d = cond b (line_or d) (Err Json)

under_is : (bytes : List ℕ) → script_line_of bytes ≡ under (is_utf8 bytes) (read bytes)
unfolding under script_line_of
under_is bytes = refl

pub line_of_json : (bytes : List ℕ) (d : Data) → IsUtf8 bytes → read bytes ≡ Some d → script_line_of bytes ≡ line_at d
unfolding under
line_of_json bytes d text reading = under_is bytes ∙ ap (λ b. under b (read bytes)) (is_utf8-from_IsUtf8 bytes text) ∙ ap (under true) reading

no_line : (b : Bool) (d : Option Data) → (b ≡ true → d ≡ None) → under b d ≡ Err Json
unfolding under
no_line true d none = ap (under true) (none refl)
no_line false d none = refl

pub line_of_no_json : (bytes : List ℕ) → (IsUtf8 bytes → read bytes ≡ None) → script_line_of bytes ≡ Err Json
line_of_no_json bytes none = under_is bytes ∙ no_line (is_utf8 bytes) (read bytes) (λ b. none (IsUtf8-from_is_utf8 bytes b))

found : (bytes : List ℕ) (it : ScriptLine) (b : Bool) (o : Option Data) → is_utf8 bytes ≡ b → read bytes ≡ o → under b o ≡ Ok it → (d : Data) × IsJson bytes d × (line_at d ≡ Ok it)
unfolding under
found bytes it true (Some d) text reading e = (d, record { utf8 = IsUtf8-from_is_utf8 bytes text; reads = reading }, e)
found bytes it true None text reading e = cc e
found bytes it false o text reading e = cc e

pub json_of_line : (bytes : List ℕ) (it : ScriptLine) → script_line_of bytes ≡ Ok it → (d : Data) × IsJson bytes d × (line_at d ≡ Ok it)
json_of_line bytes it e = found bytes it (is_utf8 bytes) (read bytes) refl refl (sym (under_is bytes) ∙ e)

none_read : (bytes : List ℕ) (o : Option Data) → read bytes ≡ o → IsUtf8 bytes → ((d : Data) → ¬ (IsJson bytes d)) → o ≡ None
none_read bytes None reading text none = refl
none_read bytes (Some d) reading text none = absurd (none d (record { utf8 = text; reads = reading }))

pub no_line_of_no_json : (bytes : List ℕ) → ((d : Data) → ¬ (IsJson bytes d)) → script_line_of bytes ≡ Err Json
no_line_of_no_json bytes none = line_of_no_json bytes (λ text. none_read bytes (read bytes) refl text none)

refused : (bytes : List ℕ) (f : LineFault) (b : Bool) (o : Option Data) → is_utf8 bytes ≡ b → read bytes ≡ o → under b o ≡ Err f
    → (f ≡ Json) ⊎ ((d : Data) × IsJson bytes d × (line_at d ≡ Err f))
unfolding under
refused bytes f true (Some d) text reading e = inr (d, record { utf8 = IsUtf8-from_is_utf8 bytes text; reads = reading }, e)
refused bytes f true None text reading e = inl (cc e)
refused bytes f false o text reading e = inl (cc e)

-- what is no line is no JSON, or the JSON of a value that is no line
pub no_line_is : (bytes : List ℕ) (f : LineFault) → script_line_of bytes ≡ Err f → (f ≡ Json) ⊎ ((d : Data) × IsJson bytes d × (line_at d ≡ Err f))
no_line_is bytes f e = refused bytes f (is_utf8 bytes) (read bytes) refl refl (sym (under_is bytes) ∙ e)
