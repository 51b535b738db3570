-- The keys of an object against names, one after another.
use Rattle.std.proofs.Common.{◌≡◌, ◌∙◌, ℕ, ◌+◌, ◌<◌, ◌≤◌, ◌&&◌, List, [], ◌∷◌, Bool, true, false, not, length, map, drop, get_or, Option, Some, None, String, refl, sym, ap, arith}
use Rattle.std.specs.Option.{MatchOption, is_some}
use Rattle.std.specs.Str.{bytes_eq}
use Rattle.std.specs.declared.alloc.Global.{Global}
use Rattle.std.proofs.lemmas.List.{drop_all, drop_more}
use Rattle.serde_json.specs.Data.{Data, Members, no_members, member}
use Rattle.serde_json.specs.View.{members_view}
use Rattle.serde_json.specs.declared.value.Value.{Value}
use Rattle.ba_printed.specs.Shapes.{keys_are}

pub ran_out : {A : Type 0} (g : A → List ℕ) (names : List A) (i : ℕ) (all : Bool) → i < length names → keys_are (map g (drop i names)) no_members ≡ all → false ≡ all
ran_out g [] i all lt e = absurd (omega (arith, lt))
ran_out g (x ∷ xs) i all lt e = sym (ap (λ ys. keys_are (map g ys) no_members) (drop_more (x ∷ xs) i x lt)) ∙ e

pub one_more : {A : Type 0} (g : A → List ℕ) (names : List A) (i : ℕ) (d : A) (k t : List ℕ) (e : Data) (more : Members) (b all : Bool) → i < length names
    → t ≡ k → b ≡ bytes_eq t (g (get_or names i d)) → keys_are (map g (drop i names)) (member k e more) ≡ all → (b && keys_are (map g (drop (i + 1) names)) more) ≡ all
one_more g names i d k t e more b all lt same h is =
    ap (λ c. c && keys_are (map g (drop (i + 1) names)) more) (h ∙ ap (λ s. bytes_eq s (g (get_or names i d))) same)
    ∙ (sym (ap (λ ys. keys_are (map g ys) (member k e more)) (drop_more names i d lt)) ∙ is)

-- no name is left: whether no key is left either
pub no_more : {A : Type 0} (g : A → List ℕ) (names : List A) (i : ℕ) (ms : Members) (all : Bool) → length names ≤ i → keys_are (map g (drop i names)) ms ≡ all → keys_are [] ms ≡ all
no_more g names i ms all le is = sym (ap (λ ys. keys_are (map g ys) ms) (drop_all i names le)) ∙ is

turned : (b c : Bool) → c ≡ not b → b ≡ not c
turned true c e = rw e refl
turned false c e = rw e refl

pub ended : {X : Type 0} (f : X → String Global × Value) (o : Option X) (rest new : List (String Global × Value)) (b all : Bool)
    → MatchOption o ((rest ≡ []) × (new ≡ [])) (λ x. rest ≡ f x ∷ new) → is_some o ≡ not b → keys_are [] (members_view rest) ≡ all → b ≡ all
ended f None rest new b all m e is = turned b false e ∙ (sym (ap (λ ms. keys_are [] (members_view ms)) m.0) ∙ is)
ended f (Some x) rest new b all m e is = turned b true e ∙ (sym (ap (λ ms. keys_are [] (members_view ms)) m) ∙ is)
