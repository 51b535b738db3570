-- A context that gives a parameter null is none.
use Rattle.std.proofs.Common.{◌≡◌, ◌∙◌, ℕ, zero, suc, List, [], ◌∷◌, Bool, true, false, cond, Some, Ordering, Less, Equal, Greater, slice_get, refl, sym, ap}
use Rattle.std.specs.Cmp.Lexicographic.{slice_cmp, texts_ties}
use Rattle.std.specs.List.{AllZip}
use Rattle.std.specs.Ordering.{is_eq, nat_cmp, match_ordering}
use Rattle.std.specs.Str.{bytes_eq}
use Rattle.std.proofs.lemmas.Slice.Eq.{bytes_eq-Decides}
use Rattle.serde_json.specs.Data.{Data, Members, no_members, member, null}
use Rattle.serde_json.specs.Find.{get_member}
use Rattle.ba_model.specs.declared.policy.Parameter.{Parameter}
use Rattle.ba_model.specs.declared.schema.Kind.{Kind}
use Rattle.ba_model.specs.declared.schema.Kind.TheVariants.{Int as IntKind, Text as TextKind}
use Rattle.ba_model.specs.declared.value.Value.{Value}
use Rattle.ba_script.specs.Contexts.{IsValueFor, given_for, is_called, of_kind}
use Rattle.ba_script.specs.Script.{given_members, given_of}
use Rattle.ba_script.specs.Scripts.{NullIsNoContext, no_context}
use Rattle.ba_script.specs.declared.line.Given.TheVariants.{Other}
use Rattle.ba_script.specs.declared.line.Member.{Member}

-- ---- what a name is given

turned : (a b : List ℕ) → bytes_eq a b ≡ bytes_eq b a
turned a b = by (bytes_eq a b) (bytes_eq b a) refl refl
  where
    by : (s t : Bool) → bytes_eq a b ≡ s → bytes_eq b a ≡ t → s ≡ t
    by true true e h = refl
    by false false e h = refl
    by true false e h = cc (sym h ∙ (bytes_eq-Decides b a).1 (sym ((bytes_eq-Decides a b).0 e)))
    by false true e h = cc (sym e ∙ (bytes_eq-Decides a b).1 (sym ((bytes_eq-Decides b a).0 h)))

by_order : (k l : List ℕ) (o : Ordering) → slice_cmp nat_cmp k l ≡ o → bytes_eq l k ≡ is_eq o
by_order k l o e = turned l k ∙ texts_ties k l ∙ ap is_eq e

pub given_member : (name : List ℕ) (ms : Members) (d : Data) → get_member name ms ≡ Some d → given_for name (given_members ms) ≡ Some (given_of d)
unfolding is_called
given_member name no_members d e = cc e
given_member name (member l x ms) d e = by (slice_cmp nat_cmp name l) refl e (given_member name ms d)
  where
    by : (o : Ordering) → slice_cmp nat_cmp name l ≡ o → match_ordering o (get_member name ms) (Some x) (get_member name ms) ≡ Some d
        → (get_member name ms ≡ Some d → given_for name (given_members ms) ≡ Some (given_of d))
        → cond (bytes_eq l name) (Some (given_of x)) (given_for name (given_members ms)) ≡ Some (given_of d)
    by Less h found rest = ap (λ b. cond b (Some (given_of x)) (given_for name (given_members ms))) (by_order name l Less h) ∙ rest found
    by Equal h found rest = ap (λ b. cond b (Some (given_of x)) (given_for name (given_members ms))) (by_order name l Equal h) ∙ ap (λ y. Some (given_of y)) (same x d found)
      where
        same : (x d : Data) → Some x ≡ Some d → x ≡ d
        same x d e = cc e
    by Greater h found rest = ap (λ b. cond b (Some (given_of x)) (given_for name (given_members ms))) (by_order name l Greater h) ∙ rest found

-- ---- no value

no_kind : (k : Kind) (v : Value) → ¬ (of_kind k Other ≡ Some v)
no_kind IntKind v e = cc e
no_kind TextKind v e = cc e

no_value : (members : List Member) (param : Parameter) (v : Value) → given_for param.name members ≡ Some Other → ¬ (IsValueFor members param v)
no_value members param v given h =
    let same : h.0 ≡ Other = cc (sym h.1 ∙ given) in
    no_kind param.kind v (ap (of_kind param.kind) (sym same) ∙ h.2)

no_values : (members : List Member) (params : List Parameter) (number : ℕ) (param : Parameter) (vs : List Value) → slice_get params number ≡ Some param
    → given_for param.name members ≡ Some Other → ¬ (AllZip (IsValueFor members) params vs)
no_values members [] number param vs at given h = cc at
no_values members (p ∷ ps) number param [] at given h = absurd h
no_values members (p ∷ ps) zero param (v ∷ vs) at given h =
    let same : p ≡ param = cc at in
    no_value members p v (ap (λ (it : Parameter). given_for it.name members) same ∙ given) h.0
no_values members (p ∷ ps) (suc number) param (v ∷ vs) at given h = no_values members ps number param vs at given h.1

pub null_no_context : NullIsNoContext
null_no_context params keys before n number param name members at given free =
    no_context free (λ context is. no_values (given_members members) params number param context.values at (given_member param.name members null given) is.values)
