-- Bytes read as an event exactly where they are the JSON of a value that spells it.
use Rattle.std.proofs.Common.{◌≡◌, ◌∙◌, ℕ, List, codes, Bool, true, false, Option, Some, None, Result, Ok, Err, refl, sym, ap, subst}
use Rattle.std.specs.Str.{is_utf8}
use Rattle.std.proofs.lemmas.Str.{IsUtf8-from_is_utf8, is_utf8-from_IsUtf8}
use Rattle.serde_json.specs.Data.{Data, unsigned, number, object, no_members, member}
use Rattle.serde_json.specs.Read.{read}
use Rattle.ba_script.proofs.FormLemmas.{line_is, line_not, spelled}
use Rattle.ba_script.proofs.ScriptLemmas.{json_of_line, line_of_json, no_line_of_no_json}
use Rattle.ba_script.specs.Script.{IsJson, Spells, line_at, script_line_of, two_at}
use Rattle.ba_script.specs.declared.fault.LineFault.{LineFault}
use Rattle.ba_script.specs.declared.fault.LineFault.TheVariants as fault
use Rattle.ba_script.specs.declared.line.ScriptLine.{ScriptLine}
use Rattle.ba_script.specs.declared.line.ScriptLine.TheVariants as line
use Rattle.ba_event.proofs.TextLemmas.{json_of_told, told_json, told_of_json}
use Rattle.ba_event.proofs.ToldLemmas.{told_is, told_said}
use Rattle.ba_event.specs.Events.{SpellsEvent, event_from, event_of, of_script_line, told_of}
use Rattle.ba_event.specs.declared.event.Event.{Event}
use Rattle.ba_event.specs.declared.event.Event.TheVariants.{Begin, Ask, Read, Told, End}
use Rattle.ba_event.specs.declared.event.EventFault.{EventFault}
use Rattle.ba_event.specs.declared.event.EventFault.TheVariants.{Json, Shape}

ok_is : (x y : Event) → ◌≡◌ {A = Result Event EventFault} (Ok x) (Ok y) → x ≡ y
ok_is x y e = cc e

-- ---- lines of a script

line_event : (d : Data) (l : ScriptLine) (it : Event) → Spells d l → of_script_line l ≡ Ok it → SpellsEvent d it
line_event d (line.Begin name context) it h e = subst (SpellsEvent d) (ok_is (Begin name context) it e) h
line_event d (line.Ask name query) it h e = subst (SpellsEvent d) (ok_is (Ask name query) it e) h
line_event d (line.Read name key args) it h e = subst (SpellsEvent d) (ok_is (Read name key args) it e) h
line_event d (line.End name) it h e = subst (SpellsEvent d) (ok_is (End name) it e) h
line_event d (line.Publish set) it h e = cc e

told_event : (bytes : List ℕ) (it : Event) → told_of bytes ≡ Ok it → (d : Data) × IsJson bytes d × SpellsEvent d it
told_event bytes it e = let found = json_of_told bytes it e in (found.0, found.1, told_is found.0 it found.2)

pub event_json : (bytes : List ℕ) (it : Event) → event_of bytes ≡ Ok it → (d : Data) × IsJson bytes d × SpellsEvent d it
event_json bytes it e = by (script_line_of bytes) refl e
  where
    by : (r : Result ScriptLine LineFault) → script_line_of bytes ≡ r → event_from r (told_of bytes) ≡ Ok it → (d : Data) × IsJson bytes d × SpellsEvent d it
    by (Ok l) is h = let found = json_of_line bytes l is in (found.0, found.1, line_event found.0 l it (line_is found.0 l found.2) h)
    by (Err fault.Json) is h = cc h
    by (Err fault.Shape) is h = told_event bytes it h
    by (Err fault.Begun) is h = told_event bytes it h
    by (Err fault.Unbegun) is h = told_event bytes it h
    by (Err fault.Key) is h = told_event bytes it h
    by (Err fault.Args) is h = told_event bytes it h
    by (Err fault.Context) is h = told_event bytes it h

of_line : (bytes : List ℕ) (d : Data) (l : ScriptLine) → IsJson bytes d → Spells d l → event_of bytes ≡ of_script_line l
of_line bytes d l json h = ap (λ r. event_from r (told_of bytes)) (line_of_json bytes d json.utf8 json.reads ∙ spelled d l h)

-- an object of told rows is no line of a script
told_no_line : (e f : Data) → line_at (object (member (codes "rows") e (member (codes "told") f no_members))) ≡ Err fault.Shape
unfolding two_at
told_no_line e f = refl

pub event_said : (bytes : List ℕ) (d : Data) (it : Event) → IsJson bytes d → SpellsEvent d it → event_of bytes ≡ Ok it
event_said bytes d (Begin name context) json h = of_line bytes d (line.Begin name context) json h
event_said bytes d (Ask name query) json h = of_line bytes d (line.Ask name query) json h
event_said bytes d (Read name key args) json h = of_line bytes d (line.Read name key args) json h
event_said bytes d (Told n rows) json h =
    let no_line : script_line_of bytes ≡ Err fault.Shape = line_of_json bytes d json.utf8 json.reads ∙ (ap line_at h.2 ∙ told_no_line h.0 (number (unsigned n))) in
    ap (λ r. event_from r (told_of bytes)) no_line ∙ (told_of_json bytes d json.utf8 json.reads ∙ told_said d n rows h)
event_said bytes d (End name) json h = of_line bytes d (line.End name) json h

-- ---- faults

line_no_json : (l : ScriptLine) → of_script_line l ≡ Err Json → ⊥
line_no_json (line.Begin name context) e = cc e
line_no_json (line.Ask name query) e = cc e
line_no_json (line.Read name key args) e = cc e
line_no_json (line.End name) e = cc e
line_no_json (line.Publish set) e = cc e

pub json_none : (bytes : List ℕ) → event_of bytes ≡ Err Json → (d : Data) → ¬ (IsJson bytes d)
json_none bytes e d json = by (script_line_of bytes) refl e
  where
    by : (r : Result ScriptLine LineFault) → script_line_of bytes ≡ r → event_from r (told_of bytes) ≡ Err Json → ⊥
    by (Ok l) is h = line_no_json l h
    by (Err fault.Json) is h = line_not d (sym (line_of_json bytes d json.utf8 json.reads) ∙ is)
    by (Err fault.Shape) is h = told_json bytes h d json
    by (Err fault.Begun) is h = told_json bytes h d json
    by (Err fault.Unbegun) is h = told_json bytes h d json
    by (Err fault.Key) is h = told_json bytes h d json
    by (Err fault.Args) is h = told_json bytes h d json
    by (Err fault.Context) is h = told_json bytes h d json

pub none_json : (bytes : List ℕ) → ((d : Data) → ¬ (IsJson bytes d)) → event_of bytes ≡ Err Json
none_json bytes none = ap (λ r. event_from r (told_of bytes)) (no_line_of_no_json bytes none)

some_json : (bytes : List ℕ) → event_of bytes ≡ Err Shape → (d : Data) × IsJson bytes d
some_json bytes e = by (is_utf8 bytes) (read bytes) refl refl
  where
    lost : ((d : Data) → ¬ (IsJson bytes d)) → ⊥
    lost none = let wrong : ◌≡◌ {A = Result Event EventFault} (Err Shape) (Err Json) = sym e ∙ none_json bytes none in cc wrong

    by : (b : Bool) (o : Option Data) → is_utf8 bytes ≡ b → read bytes ≡ o → (d : Data) × IsJson bytes d
    by true (Some d) text reading = (d, record { utf8 = IsUtf8-from_is_utf8 bytes text; reads = reading })
    by true None text reading = absurd (lost (λ d h. (let wrong : None ≡ Some d = sym reading ∙ h.reads in cc wrong)))
    by false o text reading = absurd (lost (λ d h. (let wrong : true ≡ false = sym (is_utf8-from_IsUtf8 bytes h.utf8) ∙ text in cc wrong)))

pub shape_none : (bytes : List ℕ) → event_of bytes ≡ Err Shape → (d : Data) × IsJson bytes d × ((it : Event) → ¬ (SpellsEvent d it))
shape_none bytes e =
    let json = some_json bytes e in
    (json.0, json.1, λ it h. (let wrong : ◌≡◌ {A = Result Event EventFault} (Err Shape) (Ok it) = sym e ∙ event_said bytes json.0 it json.1 h in cc wrong))

same_data : (bytes : List ℕ) (d e : Data) → IsJson bytes d → IsJson bytes e → d ≡ e
same_data bytes d e one other = (let same : Some d ≡ Some e = sym one.reads ∙ other.reads in cc same)

pub none_shape : (bytes : List ℕ) (d : Data) → IsJson bytes d → ((it : Event) → ¬ (SpellsEvent d it)) → event_of bytes ≡ Err Shape
none_shape bytes d json none = by (event_of bytes) refl
  where
    by : (r : Result Event EventFault) → event_of bytes ≡ r → r ≡ Err Shape
    by (Ok it) is =
        let found = event_json bytes it is in
        absurd (none it (subst (λ e. SpellsEvent e it) (same_data bytes found.0 d found.1 json) found.2))
    by (Err Json) is = absurd (json_none bytes is d json)
    by (Err Shape) is = refl
