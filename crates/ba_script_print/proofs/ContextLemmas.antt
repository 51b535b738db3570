-- A context that was written gives the parameters the same values.
use Rattle.std.proofs.Common.{◌≡◌, ◌∙◌, ℕ, suc, arith, List, [], ◌∷◌, Bool, true, false, cond, nat_lt, ◌^◌, pos, negsuc, Option, Some, None, refl, sym, ap, subst}
use Rattle.std.specs.List.{AllByRecursion, AllZip, Any, fold, zip}
use Rattle.std.specs.Str.{bytes_eq}
use Rattle.std.proofs.lemmas.List.Elements.{All-from_recursion, recursion_from_All}
use Rattle.serde_json.specs.Data.{Data, Members, no_members, put}
use Rattle.ba_model.specs.declared.policy.Context.{Context}
use Rattle.ba_model.specs.declared.policy.Parameter.{Parameter}
use Rattle.ba_model.specs.declared.schema.Kind.{Kind}
use Rattle.ba_model.specs.declared.schema.Kind.TheVariants.{Int as IntKind, Text as TextKind}
use Rattle.ba_model.specs.declared.value.Value.{Value}
use Rattle.ba_model.specs.declared.value.Value.TheVariants as value
use Rattle.ba_script.specs.Contexts.{IsContext, IsValueFor, given_for, of_kind}
use Rattle.ba_script.specs.Script.{given_from, given_members, given_of}
use Rattle.ba_script.specs.declared.line.Given.{Given}
use Rattle.ba_script.specs.declared.line.Given.TheVariants as given
use Rattle.ba_script.specs.declared.line.Member.{Member}
use Rattle.ba_script_print.proofs.PutLemmas.{given_put, named_put, same_text, text_itself}
use Rattle.ba_script_print.specs.ReadBack.{ContextHasBits, ValueHasBits}
use Rattle.ba_script_print.specs.Texts.{context_members, value_json, with_value}

-- ---- one value

int_given : (n : ℕ) (b : Bool) → b ≡ true → given_from None (cond b (Some (pos n)) None) ≡ given.Int (pos n)
int_given n true e = refl
int_given n false e = cc e

-- what is written for a value is what gave it
same_given : (k : Kind) (g : Given) (v : Value) → of_kind k g ≡ Some v → ValueHasBits v → given_of (value_json v) ≡ g
same_given IntKind (given.Int n) value.Null e h = cc e
same_given IntKind (given.Int n) (value.Int (pos m)) e h = let same : pos m ≡ n = cc e in int_given m (nat_lt m (2 ^ 63)) h ∙ ap given.Int same
same_given IntKind (given.Int n) (value.Int (negsuc m)) e h = let same : negsuc m ≡ n = cc e in ap given.Int same
same_given IntKind (given.Int n) (value.Text t) e h = cc e
same_given IntKind (given.Text s) v e h = cc e
same_given IntKind given.Other v e h = cc e
same_given TextKind (given.Int n) v e h = cc e
same_given TextKind (given.Text s) value.Null e h = cc e
same_given TextKind (given.Text s) (value.Int m) e h = cc e
same_given TextKind (given.Text s) (value.Text t) e h = let same : t ≡ s = cc e in ap given.Text same
same_given TextKind given.Other v e h = cc e

-- ---- all values

module _ (members : List Member) where
  -- what stands there was given by the members
  abbrev AreGiven : Members → Type 0
  AreGiven ms = (name : List ℕ) (g : Given) → given_for name (given_members ms) ≡ Some g → given_for name members ≡ Some g

  given_more : (k : List ℕ) (d : Data) (ms : Members) (g : Given) → AreGiven ms → given_for k members ≡ Some g → given_of d ≡ g → AreGiven (put k d ms)
  given_more k d ms g before there same name h found = by (bytes_eq k name) refl (sym (given_put k d ms name) ∙ found)
    where
      by : (b : Bool) → bytes_eq k name ≡ b → cond b (Some (given_of d)) (given_for name (given_members ms)) ≡ Some h → given_for name members ≡ Some h
      by true e is = ap (λ n. given_for n members) (sym (same_text k name e)) ∙ there ∙ ap Some (sym same) ∙ is
      by false e is = before name h is

  all_given : (params : List Parameter) (vs : List Value) (ms : Members) → AllZip (IsValueFor members) params vs → AllByRecursion (λ p. ValueHasBits p.1) (zip params vs) → AreGiven ms
      → AreGiven (fold with_value ms (zip params vs))
  all_given [] [] ms z h before = before
  all_given [] (v ∷ vs) ms z h before = absurd z
  all_given (p ∷ params) [] ms z h before = absurd z
  all_given (p ∷ params) (v ∷ vs) ms z h before =
      all_given params vs (put p.name (value_json v) ms) z.1 h.1 (given_more p.name (value_json v) ms z.0.0 before z.0.1 (same_given p.kind z.0.0 v z.0.2 h.0))

-- a name that has a value keeps one
abbrev HasValue : List ℕ → Members → Type 0
HasValue name ms = (g : Given) × (given_for name (given_members ms) ≡ Some g)

value_put : (k : List ℕ) (d : Data) (ms : Members) → HasValue k (put k d ms)
value_put k d ms = (given_of d, given_put k d ms k ∙ ap (λ b. cond b (Some (given_of d)) (given_for k (given_members ms))) (text_itself k))

value_kept : (k : List ℕ) (d : Data) (ms : Members) (name : List ℕ) → HasValue name ms → HasValue name (put k d ms)
value_kept k d ms name h = by (bytes_eq k name) (given_put k d ms name)
  where
    by : (b : Bool) → given_for name (given_members (put k d ms)) ≡ cond b (Some (given_of d)) (given_for name (given_members ms)) → HasValue name (put k d ms)
    by true e = (given_of d, e)
    by false e = (h.0, e ∙ h.1)

values_kept : (params : List Parameter) (vs : List Value) (ms : Members) (name : List ℕ) → HasValue name ms → HasValue name (fold with_value ms (zip params vs))
values_kept [] vs ms name h = h
values_kept (p ∷ params) [] ms name h = h
values_kept (p ∷ params) (v ∷ vs) ms name h = values_kept params vs (put p.name (value_json v) ms) name (value_kept p.name (value_json v) ms name h)

-- each parameter has one
valued_by : (R : Parameter → Value → Type 0) (params : List Parameter) (vs : List Value) (ms all : Members) → fold with_value ms (zip params vs) ≡ all → AllZip R params vs
    → AllByRecursion (λ (p : Parameter). HasValue p.name all) params
valued_by R [] [] ms all e z = tt
valued_by R [] (v ∷ vs) ms all e z = absurd z
valued_by R (p ∷ params) [] ms all e z = absurd z
valued_by R (p ∷ params) (v ∷ vs) ms all e z = (
  subst (HasValue p.name) e (values_kept params vs (put p.name (value_json v) ms) p.name (value_put p.name (value_json v) ms)),
  valued_by R params vs (put p.name (value_json v) ms) all e z.1,
)

-- no other name has one
named : (P : List ℕ → Type 0) (params : List Parameter) (vs : List Value) (ms : Members) → AllByRecursion (λ (p : Parameter). P p.name) params → AllByRecursion (λ (m : Member). P m.name) (given_members ms)
    → AllByRecursion (λ (m : Member). P m.name) (given_members (fold with_value ms (zip params vs)))
named P [] vs ms h before = before
named P (p ∷ params) [] ms h before = before
named P (p ∷ params) (v ∷ vs) ms h before = named P params vs (put p.name (value_json v) ms) h.1 (named_put P p.name (value_json v) ms h.0 before)

later : {X : Type 0} (P : X → Type 0) (y : X) (xs : List X) → Any P xs → Any P (y ∷ xs)
later P y xs (k, x, below, is, h) = (suc k, x, omega (arith, below), is, h)

weaker : {X : Type 0} (P Q : X → Type 0) → ((x : X) → P x → Q x) → (xs : List X) → AllByRecursion P xs → AllByRecursion Q xs
weaker P Q f [] h = tt
weaker P Q f (x ∷ xs) h = (f x h.0, weaker P Q f xs h.1)

abbrev IsNamed : List Parameter → List ℕ → Type 0
IsNamed params name = Any (λ q. q.name ≡ name) params

own_names : (params : List Parameter) → AllByRecursion (λ (p : Parameter). IsNamed params p.name) params
own_names [] = tt
own_names (p ∷ params) = (
  (0, p, omega arith, refl, refl),
  weaker (λ (x : Parameter). IsNamed params x.name) (λ (x : Parameter). IsNamed (p ∷ params) x.name) (λ x h. later (λ q. q.name ≡ x.name) p params h) params (own_names params),
)

-- ---- the context

same_some : (g h : Given) → ◌≡◌ {A = Option Given} (Some g) (Some h) → g ≡ h
same_some g h e = cc e

values_printed : (members : List Member) (params : List Parameter) (vs : List Value) (ms : Members) → AreGiven members ms → AllByRecursion (λ (p : Parameter). HasValue p.name ms) params
    → AllZip (IsValueFor members) params vs → AllZip (IsValueFor (given_members ms)) params vs
values_printed members [] [] ms own has z = tt
values_printed members [] (v ∷ vs) ms own has z = absurd z
values_printed members (p ∷ params) [] ms own has z = absurd z
values_printed members (p ∷ params) (v ∷ vs) ms own has z =
    let same = same_some has.0.0 z.0.0 (sym (own p.name has.0.0 has.0.1) ∙ z.0.1) in
    ((has.0.0, has.0.1, ap (of_kind p.kind) same ∙ z.0.2), values_printed members params vs ms own has.1 z.1)

-- the members that are written are this context
pub context_printed : (params : List Parameter) (members : List Member) (context : Context) → IsContext params members context → ContextHasBits params context
    → IsContext params (given_members (context_members params context)) context
context_printed params members context h bits =
    let ms = context_members params context in
    let own : AreGiven members ms = all_given members params context.values no_members h.values (recursion_from_All (λ p. ValueHasBits p.1) (zip params context.values) bits) (λ name g e. cc e) in
    record {
      values = values_printed members params context.values ms own (valued_by (IsValueFor members) params context.values no_members ms refl h.values) h.values;
      no_other = All-from_recursion (λ m. Any (λ param. param.name ≡ m.name) params) (given_members ms) (named (IsNamed params) params context.values no_members (own_names params) tt);
    }
