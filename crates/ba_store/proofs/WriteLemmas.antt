-- Written templates read back.
use Rattle.std.proofs.Common.{◌≡◌, ◌∙◌, ℕ, suc, ◌+◌, ◌<◌, ◌≤◌, List, [], ◌∷◌, ◌++◌, length, map, take, get_or, false, refl, sym, ap, ap₂, subst, arith, All, append_assoc}
use Rattle.std.proofs.lemmas.Grind.{flat_map-append}
use Rattle.std.proofs.lemmas.List.{append-nil, take_more}
use Rattle.std.specs.Prelude.{Result, Ok, Err, Some}
use Rattle.std.specs.List.{AllByRecursion, AllZip}
use Rattle.std.specs.Str.{IsUtf8}
use Rattle.std.proofs.lemmas.List.Elements.{All-append, All-from_recursion, recursion_from_All}
use Rattle.serde_json.specs.Data.{Data, depth}
use Rattle.serde_json.specs.Read.{max_depth, read}
use Rattle.serde_json.specs.Written.{compact_text, has_float}
use Rattle.ba_model.specs.Limits.{most_operands, most_templates}
use Rattle.ba_model.specs.declared.policy.Policy.{Policy}
use Rattle.ba_kernel.specs.SearchStates.{Proof}
use Rattle.ba_template.specs.Templates.{IsTemplate}
use Rattle.ba_proof.proofs.SpellLemmas.{steps_spell}
use Rattle.ba_store.proofs.JsonLemmas.{template_shallow, template_whole}
use Rattle.ba_store.proofs.PrintLemmas.{line_first, text_inner}
use Rattle.ba_store.proofs.ReadBackLemmas.{template_back}
use Rattle.ba_store.proofs.TextLemmas.{text_reads}
use Rattle.ba_store.specs.Loads.{IsLineOf, few, lines_of}
use Rattle.ba_store.specs.ReadBack.{HasText, IsNamedApart, IsWritable, ReadsBack, TemplateHasBits}
use Rattle.ba_store.specs.Reading.{draft_at, draft_of, draft_with}
use Rattle.ba_store.specs.Tests.{PassesTests}
use Rattle.ba_store.specs.Written.{json_text, line_of, template_json, text_of}

-- ---- a template's text

module _ (it : Proof) (d : Data) (bytes : List ℕ) (made : d ≡ template_json it.problem it.steps) where
  pub text_is : (has_float d ≡ false → bytes ≡ compact_text d) → bytes ≡ json_text it
  text_is writes = writes (ap has_float made ∙ template_whole it.problem it.steps) ∙ ap compact_text made

  pub has_text : IsTemplate it.problem it.steps → TemplateHasBits it.problem it.steps → IsUtf8 bytes → (has_float d ≡ false → bytes ≡ compact_text d)
      → (depth d ≤ max_depth → read bytes ≡ Some d) → HasText it
  has_text template bits utf8 writes reading =
      let is = text_is writes in
      record {
        utf8 = subst IsUtf8 is utf8;
        reads = ap read (sym is) ∙ reading (subst (λ x. depth x ≤ max_depth) (sym made) (template_shallow it.problem it.steps)) ∙ ap Some made;
        template = template;
        bits = bits;
      }

-- ---- the file

-- a template passes the tests of its policy
own_tests : (policy : Policy) (it : Proof) → IsWritable policy it → IsTemplate it.problem it.steps → PassesTests it.problem.policy it.problem it.steps
own_tests policy it w template =
    record {
      of_policy = refl;
      formed = record { entries = template.fits.entries; assumed = template.fits.assumed; goal = template.fits.goal };
      few_vars = subst (λ (x : Policy). length it.problem.vars + length x.params ≤ most_operands) (sym w.of_policy) w.few_vars;
      stands = template.stands;
      few_entries = w.few_entries;
      few_steps = template.proved.few;
    }

-- each line is its template
line_is : (policy : Policy) → IsNamedApart policy → (it : Proof) → IsWritable policy it → HasText it → IsLineOf policy (json_text it) it
line_is policy apart it w h =
    record {
      says =
          text_reads policy (json_text it) (template_json it.problem it.steps) h.utf8 h.reads
          ∙ subst (λ (x : Policy). draft_at x (template_json it.problem it.steps) ≡ Ok (draft_with it.problem it.steps)) w.of_policy
          (template_back it.problem (subst IsNamedApart (sym w.of_policy) apart) it.steps (own_tests policy it w h.template) h.bits
          (steps_spell it.problem h.template.fits h.template.proved.runs h.bits.steps));
      closes = record { slots = h.template.proved.slots; runs = h.template.proved.runs; closed = h.template.proved.closed };
    }

each_line : (policy : Policy) → IsNamedApart policy → (templates : List Proof) → AllByRecursion (IsWritable policy) templates → AllByRecursion HasText templates
    → AllZip (IsLineOf policy) (map json_text templates) templates
each_line policy apart [] w h = tt
each_line policy apart (it ∷ templates) w h = (line_is policy apart it w.0 h.0, each_line policy apart templates w.1 h.1)

lines_are : (templates : List Proof) → lines_of (text_of templates) ≡ map json_text templates
lines_are [] = refl
lines_are (it ∷ templates) =
    line_first (json_text it) (text_of templates) (text_inner (template_json it.problem it.steps)) ∙ ap (λ ls. json_text it ∷ ls) (lines_are templates)

length_map : {X Y : Type 0} (f : X → Y) (xs : List X) → length (map f xs) ≡ length xs
length_map f [] = refl
length_map f (x ∷ xs) = ap suc (length_map f xs)

pub file_reads_back : (templates : List Proof) (bytes : List ℕ) → bytes ≡ text_of templates → All HasText templates → ReadsBack templates bytes
file_reads_back templates bytes e have policy apart within writable =
    let lines : lines_of bytes ≡ map json_text templates = ap lines_of e ∙ lines_are templates in
    few (record {
      few = subst (λ n. n ≤ most_templates) (sym (ap length lines ∙ length_map json_text templates)) within;
      lines_load = subst (λ ls. AllZip (IsLineOf policy) ls templates) (sym lines)
          (each_line policy apart templates (recursion_from_All (IsWritable policy) templates writable) (recursion_from_All HasText templates have));
    })

-- ---- the loop over the templates

module _ (templates : List Proof) (i : ℕ) (it : Proof) (lt : i < length templates) (is : it ≡ get_or templates i it) where
  next_is : take (i + 1) templates ≡ take i templates ++ it ∷ []
  next_is = take_more templates i it lt ∙ ap (λ x. take i templates ++ x ∷ []) (sym is)

  pub line_more : (before text mid after : List ℕ) → before ≡ text_of (take i templates) → text ≡ json_text it → mid ≡ before ++ text → after ≡ mid ++ 10 ∷ []
      → after ≡ text_of (take (i + 1) templates)
  line_more before text mid after so_far own added ended =
      ended ∙ ap (λ x. x ++ 10 ∷ []) (added ∙ ap₂ (λ x y. x ++ y) so_far own)
      ∙ append_assoc (text_of (take i templates)) (json_text it) (10 ∷ [])
      ∙ ap (λ x. text_of (take i templates) ++ x) (sym (append-nil (line_of it)))
      ∙ sym (flat_map-append line_of (take i templates) (it ∷ []))
      ∙ ap text_of (sym next_is)

  pub have_more : All HasText (take i templates) → HasText it → All HasText (take (i + 1) templates)
  have_more before own = subst (All HasText) (sym next_is) (All-append HasText (take i templates) (it ∷ []) before (All-from_recursion HasText (it ∷ []) (own, tt)))
