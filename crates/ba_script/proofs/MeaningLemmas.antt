-- What is read is what a script means.
use Rattle.std.proofs.Common.{◌≡◌, ◌∙◌, List, [], ◌∷◌, Bool, true, false, cond, All, Option, Some, None, option_map, option_and_then, refl, sym, ap, subst}
use Rattle.std.specs.Bool.{Decides}
use Rattle.std.specs.List.{AllZip, Any, list_all}
use Rattle.std.proofs.lemmas.List.Elements.{All-weaker}
use Rattle.std.proofs.lemmas.List.Folds.{Any-from_list_any, list_any-from_Any}
use Rattle.std.proofs.lemmas.List.Sums.{AllPass-from_list_all, list_all-from_AllPass}
use Rattle.std.proofs.lemmas.Slice.Eq.{bytes_eq-Decides}
use Rattle.ba_model.specs.declared.policy.Context.{Context}
use Rattle.ba_model.specs.declared.policy.Parameter.{Parameter}
use Rattle.ba_model.specs.declared.value.Value.{Value}
use Rattle.ba_script.specs.Contexts.{IsContext, IsValueFor, are_declared, context_of, context_with, given_for, is_declared, is_named, of_kind, value_for, values_for, with_rest, with_value}
use Rattle.ba_script.specs.declared.line.Given.{Given}
use Rattle.ba_script.specs.declared.line.Member.{Member}

-- ---- the context of a begin line

abbrev HasName : List Parameter → Member → Type 0
HasName params m = Any (λ param. param.name ≡ m.name) params

any_weaker : {X : Type 0} (P Q : X → Type 0) → ((x : X) → P x → Q x) → (xs : List X) → Any P xs → Any Q xs
any_weaker P Q f xs (k, x, below, is, h) = (k, x, below, is, f x h)

declared_decides : (params : List Parameter) (m : Member) → Decides (is_declared params m) (HasName params m)
unfolding is_declared
declared_decides params m = (
  λ e. any_weaker (λ param. is_named m.name param ≡ true) (λ param. param.name ≡ m.name) (λ param. (bytes_eq-Decides param.name m.name).0) params (Any-from_list_any (is_named m.name) params e),
  λ h. list_any-from_Any (is_named m.name) params
      (any_weaker (λ param. param.name ≡ m.name) (λ param. is_named m.name param ≡ true) (λ param. (bytes_eq-Decides param.name m.name).1) params h),
)

all_decides : {X : Type 0} (p : X → Bool) (P : X → Type 0) → ((x : X) → Decides (p x) (P x)) → (xs : List X) → Decides (list_all p xs) (All P xs)
all_decides p P d xs = (
  λ e. All-weaker (λ x. p x ≡ true) P (λ x. (d x).0) xs (AllPass-from_list_all p xs e),
  λ h. list_all-from_AllPass p xs (All-weaker P (λ x. p x ≡ true) (λ x. (d x).1) xs h),
)

are_declared_decides : (params : List Parameter) (members : List Member) → Decides (are_declared params members) (All (HasName params) members)
are_declared_decides params members = all_decides (is_declared params) (HasName params) (declared_decides params) members

value_is : (members : List Member) (param : Parameter) (v : Value) → value_for members param ≡ Some v → IsValueFor members param v
value_is members param v e = by (given_for param.name members) refl e
  where
    by : (o : Option Given) → given_for param.name members ≡ o → option_and_then (of_kind param.kind) o ≡ Some v → IsValueFor members param v
    by None is h = cc h
    by (Some given) is h = (given, is, h)

is_value : (members : List Member) (param : Parameter) (v : Value) → IsValueFor members param v → value_for members param ≡ Some v
is_value members param v (given, is, kind) = ap (option_and_then (of_kind param.kind)) is ∙ kind

values_by : (members : List Member) (param : Parameter) (params : List Parameter) (o : Option Value) (rest : Option (List Value)) → value_for members param ≡ o
    → ((vs : List Value) → rest ≡ Some vs → AllZip (IsValueFor members) params vs) → (vs : List Value) → with_rest o rest ≡ Some vs → AllZip (IsValueFor members) (param ∷ params) vs
values_by members param params None rest is others vs h = cc h
values_by members param params (Some v) None is others vs h = cc h
values_by members param params (Some v) (Some more) is others [] h = cc h
values_by members param params (Some v) (Some more) is others (w ∷ ws) h =
    let first : v ≡ w = cc h in
    let behind : more ≡ ws = cc h in
    (value_is members param w (is ∙ ap Some first), others ws (ap Some behind))

values_are : (members : List Member) (params : List Parameter) (vs : List Value) → values_for members params ≡ Some vs → AllZip (IsValueFor members) params vs
values_are members [] [] e = tt
values_are members [] (v ∷ vs) e = cc e
values_are members (param ∷ params) vs e = values_by members param params (value_for members param) (values_for members params) refl (values_are members params) vs e

are_values : (members : List Member) (params : List Parameter) (vs : List Value) → AllZip (IsValueFor members) params vs → values_for members params ≡ Some vs
are_values members [] [] h = refl
are_values members [] (v ∷ vs) h = absurd h
are_values members (param ∷ params) [] h = absurd h
are_values members (param ∷ params) (v ∷ vs) h =
    ap (λ o. with_rest o (values_for members params)) (is_value members param v h.0) ∙ ap (with_value v) (are_values members params vs h.1)

pub context_is : (params : List Parameter) (members : List Member) (context : Context) → context_of params members ≡ Some context → IsContext params members context
unfolding context_of
context_is params members context e = by (are_declared params members) (values_for members params) refl refl e
  where
    by : (b : Bool) (o : Option (List Value)) → are_declared params members ≡ b → values_for members params ≡ o → cond b (option_map context_with o) None ≡ Some context → IsContext params members context
    by false o declared values h = cc h
    by true None declared values h = cc h
    by true (Some vs) declared values h =
        let is : context_with vs ≡ context = cc h in
        subst (IsContext params members) is (record { values = values_are members params vs values; no_other = (are_declared_decides params members).0 declared })

pub is_context : (params : List Parameter) (members : List Member) (context : Context) → IsContext params members context → context_of params members ≡ Some context
unfolding context_of
is_context params members context h =
    ap (λ b. cond b (option_map context_with (values_for members params)) None) ((are_declared_decides params members).1 h.no_other)
    ∙ ap (option_map context_with) (are_values members params context.values h.values)

pub no_context : (params : List Parameter) (members : List Member) → context_of params members ≡ None → (context : Context) → ¬ (IsContext params members context)
no_context params members none context h = cc (sym none ∙ is_context params members context h)

pub context_none : (params : List Parameter) (members : List Member) → ((context : Context) → ¬ (IsContext params members context)) → context_of params members ≡ None
context_none params members none = by (context_of params members) refl
  where
    by : (o : Option Context) → context_of params members ≡ o → o ≡ None
    by None is = refl
    by (Some context) is = absurd (none context (context_is params members context is))
