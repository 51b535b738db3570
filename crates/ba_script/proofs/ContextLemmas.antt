-- The values that a begin line gives, parameter by parameter.
use Rattle.std.proofs.Common.{◌≡◌, ◌∙◌, ℕ, ◌+◌, ◌<◌, ◌≤◌, List, [], ◌∷◌, ◌++◌, length, drop, true, false, cond, Option, Some, None, option_map, refl, sym, ap, append_assoc, append-nil}
use Rattle.std.specs.Prelude.{slice_index_or}
use Rattle.std.proofs.lemmas.List.{at_drop_all, at_drop_more}
use Rattle.ba_model.specs.declared.policy.Parameter.{Parameter}
use Rattle.ba_model.specs.declared.value.Value.{Value}
use Rattle.ba_script.specs.Contexts.{given_for, is_called, value_for, values_for, with_rest, with_value}
use Rattle.ba_script.specs.declared.line.Given.{Given}
use Rattle.ba_script.specs.declared.line.Member.{Member}

-- ---- what a name is given

at_member : (name : List ℕ) (ms : List Member) (i : ℕ) (m : Member) → i < length ms → m ≡ slice_index_or ms i m
    → given_for name (drop i ms) ≡ cond (is_called name m) (Some m.value) (given_for name (drop (i + 1) ms))
at_member name ms i m lt is = at_drop_more (given_for name) ms i m lt ∙ ap (λ x. given_for name (x ∷ drop (i + 1) ms)) (sym is)

pub found_member : (name : List ℕ) (ms : List Member) (i : ℕ) (m : Member) (whole : Option Given) → i < length ms → m ≡ slice_index_or ms i m
    → given_for name (drop i ms) ≡ whole → is_called name m ≡ true → Some m.value ≡ whole
found_member name ms i m whole lt is before test =
    sym (ap (λ b. cond b (Some m.value) (given_for name (drop (i + 1) ms))) test) ∙ sym (at_member name ms i m lt is) ∙ before

pub passed_member : (name : List ℕ) (ms : List Member) (i : ℕ) (m : Member) (whole : Option Given) → i < length ms → m ≡ slice_index_or ms i m
    → given_for name (drop i ms) ≡ whole → is_called name m ≡ false → given_for name (drop (i + 1) ms) ≡ whole
passed_member name ms i m whole lt is before test =
    sym (ap (λ b. cond b (Some m.value) (given_for name (drop (i + 1) ms))) test) ∙ sym (at_member name ms i m lt is) ∙ before

-- ---- the values of all parameters

-- the values behind those that were found
abbrev pub behind : List Value → Option (List Value) → Option (List Value)
behind found rest = option_map (λ more. found ++ more) rest

at_param : (members : List Member) (ps : List Parameter) (i : ℕ) (p : Parameter) (o : Option Value) → i < length ps → p ≡ slice_index_or ps i p → o ≡ value_for members p
    → values_for members (drop i ps) ≡ with_rest o (values_for members (drop (i + 1) ps))
at_param members ps i p o lt is value =
    at_drop_more (values_for members) ps i p lt ∙ ap (λ x. values_for members (x ∷ drop (i + 1) ps)) (sym is) ∙ ap (λ v. with_rest v (values_for members (drop (i + 1) ps))) (sym value)

one_more : (found : List Value) (v : Value) (rest : Option (List Value)) → behind (found ++ v ∷ []) rest ≡ behind found (with_value v rest)
one_more found v None = refl
one_more found v (Some more) = ap Some (append_assoc found (v ∷ []) more)

pub kept_value : (members : List Member) (ps : List Parameter) (i : ℕ) (p : Parameter) (v : Value) (found : List Value) (whole : Option (List Value)) → i < length ps
    → p ≡ slice_index_or ps i p → Some v ≡ value_for members p → behind found (values_for members (drop i ps)) ≡ whole
    → behind (found ++ v ∷ []) (values_for members (drop (i + 1) ps)) ≡ whole
kept_value members ps i p v found whole lt is value before =
    one_more found v (values_for members (drop (i + 1) ps)) ∙ ap (behind found) (sym (at_param members ps i p (Some v) lt is value)) ∙ before

pub lost_value : (members : List Member) (ps : List Parameter) (i : ℕ) (p : Parameter) (found : List Value) (whole : Option (List Value)) → i < length ps
    → p ≡ slice_index_or ps i p → None ≡ value_for members p → behind found (values_for members (drop i ps)) ≡ whole → None ≡ whole
lost_value members ps i p found whole lt is value before = ap (behind found) (sym (at_param members ps i p None lt is value)) ∙ before

pub all_values : (members : List Member) (ps : List Parameter) (i : ℕ) (found : List Value) (whole : Option (List Value)) → length ps ≤ i
    → behind found (values_for members (drop i ps)) ≡ whole → Some found ≡ whole
all_values members ps i found whole end before =
    ap Some (sym (append-nil found)) ∙ sym (ap (behind found) (at_drop_all (values_for members) ps i end)) ∙ before
