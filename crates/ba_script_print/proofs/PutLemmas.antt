-- What is given for a name, and which names there are, once a member was put.
use Rattle.std.proofs.Common.{◌≡◌, ◌∙◌, ℕ, List, Bool, true, false, cond, Ordering, Less, Equal, Greater, Option, Some, refl, sym, ap}
use Rattle.std.specs.Cmp.Lexicographic.{slice_cmp, texts_ties}
use Rattle.std.specs.List.{AllByRecursion}
use Rattle.std.specs.Ordering.{is_eq, nat_cmp, match_ordering}
use Rattle.std.specs.Str.{bytes_eq}
use Rattle.std.proofs.lemmas.Slice.Eq.{bytes_eq-Decides}
use Rattle.serde_json.specs.Data.{Data, Members, no_members, member, put}
use Rattle.ba_script.specs.Contexts.{given_for, is_called}
use Rattle.ba_script.specs.Script.{given_members, given_of}
use Rattle.ba_script.specs.declared.line.Given.{Given}
use Rattle.ba_script.specs.declared.line.Member.{Member}

pub same_text : (a b : List ℕ) → bytes_eq a b ≡ true → a ≡ b
same_text a b e = (bytes_eq-Decides a b).0 e

pub text_itself : (a : List ℕ) → bytes_eq a a ≡ true
text_itself a = (bytes_eq-Decides a a).1 refl

-- the order of two texts
by_order : (k l : List ℕ) (o : Ordering) → slice_cmp nat_cmp k l ≡ o → bytes_eq k l ≡ is_eq o
by_order k l o e = texts_ties k l ∙ ap is_eq e

chosen : (b c : Bool) (x y z : Option Given) → (b ≡ true → c ≡ true → ⊥) → cond b x (cond c y z) ≡ cond c y (cond b x z)
chosen true true x y z h = absurd (h refl refl)
chosen true false x y z h = refl
chosen false true x y z h = refl
chosen false false x y z h = refl

over : (b : Bool) (x y z : Option Given) → cond b x z ≡ cond b x (cond b y z)
over true x y z = refl
over false x y z = refl

pub given_put : (k : List ℕ) (d : Data) (ms : Members) (name : List ℕ)
    → given_for name (given_members (put k d ms)) ≡ cond (bytes_eq k name) (Some (given_of d)) (given_for name (given_members ms))
unfolding is_called
given_put k d no_members name = refl
given_put k d (member l e ms) name = by (slice_cmp nat_cmp k l) refl (given_put k d ms name)
  where
    goal : Ordering → Type 0
    goal o = given_for name (given_members (match_ordering o (member k d (member l e ms)) (member l d ms) (member l e (put k d ms))))
        ≡ cond (bytes_eq k name) (Some (given_of d)) (cond (bytes_eq l name) (Some (given_of e)) (given_for name (given_members ms)))

    by : (o : Ordering) → slice_cmp nat_cmp k l ≡ o
        → given_for name (given_members (put k d ms)) ≡ cond (bytes_eq k name) (Some (given_of d)) (given_for name (given_members ms)) → goal o
    by Less h rest = refl
    by Equal h rest =
        let same : k ≡ l = same_text k l (by_order k l Equal h) in
        over (bytes_eq l name) (Some (given_of d)) (Some (given_of e)) (given_for name (given_members ms))
        ∙ ap (λ t. cond (bytes_eq t name) (Some (given_of d)) (cond (bytes_eq l name) (Some (given_of e)) (given_for name (given_members ms)))) (sym same)
    by Greater h rest =
        ap (λ r. cond (bytes_eq l name) (Some (given_of e)) r) rest
        ∙ chosen (bytes_eq l name) (bytes_eq k name) (Some (given_of e)) (Some (given_of d)) (given_for name (given_members ms))
        (λ t u. (let same : k ≡ l = same_text k name u ∙ sym (same_text l name t) in
        let wrong : true ≡ false = sym (text_itself k) ∙ ap (bytes_eq k) same ∙ by_order k l Greater h in cc))

-- a property of names holds of the put one, and of the others
pub named_put : (P : List ℕ → Type 0) (k : List ℕ) (d : Data) (ms : Members) → P k → AllByRecursion (λ (m : Member). P m.name) (given_members ms)
    → AllByRecursion (λ (m : Member). P m.name) (given_members (put k d ms))
named_put P k d no_members this rest = (this, tt)
named_put P k d (member l e ms) this rest = by (slice_cmp nat_cmp k l) (named_put P k d ms this rest.1)
  where
    by : (o : Ordering) → AllByRecursion (λ (m : Member). P m.name) (given_members (put k d ms))
        → AllByRecursion (λ (m : Member). P m.name) (given_members (match_ordering o (member k d (member l e ms)) (member l d ms) (member l e (put k d ms))))
    by Less more = (this, rest)
    by Equal more = rest
    by Greater more = (rest.0, more)
