-- What is given for a name once a member was put.
use Rattle.std.proofs.Common.{◌≡◌, ◌∙◌, ℕ, List, Bool, true, false, ◌&&◌, cond, Ordering, Less, Equal, Greater, Option, Some, refl, sym, ap}
use Rattle.std.specs.Cmp.Lexicographic.{slice_cmp, texts_ties}
use Rattle.std.specs.Ordering.{is_eq, nat_cmp, match_ordering}
use Rattle.std.specs.Str.{bytes_eq}
use Rattle.std.proofs.lemmas.Slice.Eq.{bytes_eq-Decides}
use Rattle.serde_json.specs.Data.{Data, Members, no_members, member, put}
use Rattle.ba_model.specs.declared.policy.Parameter.{Parameter}
use Rattle.ba_script.specs.Contexts.{are_declared, given_for, is_called, is_declared}
use Rattle.ba_script.specs.Script.{given_members, given_of}
use Rattle.ba_script.specs.declared.line.Given.{Given}
use Rattle.ba_script.specs.declared.line.Member.{Member}

pub same_text : (a b : List ℕ) → bytes_eq a b ≡ true → a ≡ b
same_text a b e = (bytes_eq-Decides a b).0 e

pub text_itself : (a : List ℕ) → bytes_eq a a ≡ true
text_itself a = (bytes_eq-Decides a a).1 refl

pub differs_back : (a b : List ℕ) → bytes_eq a b ≡ false → bytes_eq b a ≡ false
differs_back a b e = by (bytes_eq b a) refl
  where
    by : (t : Bool) → bytes_eq b a ≡ t → t ≡ false
    by true h = let same = same_text b a h in let wrong : true ≡ false = sym (text_itself a) ∙ ap (bytes_eq a) (sym same) ∙ e in cc
    by false h = refl

-- the order of two texts
by_order : (k l : List ℕ) (o : Ordering) → slice_cmp nat_cmp k l ≡ o → bytes_eq k l ≡ is_eq o
by_order k l o e = texts_ties k l ∙ ap is_eq e

chosen : (b c : Bool) (x y z : Option Given) → (b ≡ true → c ≡ true → ⊥) → cond b x (cond c y z) ≡ cond c y (cond b x z)
chosen true true x y z h = absurd (h refl refl)
chosen true false x y z h = refl
chosen false true x y z h = refl
chosen false false x y z h = refl

over : (b : Bool) (x y z : Option Given) → cond b x z ≡ cond b x (cond b y z)
over true x y z = refl
over false x y z = refl

pub given_put : (k : List ℕ) (d : Data) (ms : Members) (name : List ℕ)
    → given_for name (given_members (put k d ms)) ≡ cond (bytes_eq k name) (Some (given_of d)) (given_for name (given_members ms))
unfolding is_called
given_put k d no_members name = refl
given_put k d (member l e ms) name = by (slice_cmp nat_cmp k l) refl (given_put k d ms name)
  where
    goal : Ordering → Type 0
    goal o = given_for name (given_members (match_ordering o (member k d (member l e ms)) (member l d ms) (member l e (put k d ms))))
        ≡ cond (bytes_eq k name) (Some (given_of d)) (cond (bytes_eq l name) (Some (given_of e)) (given_for name (given_members ms)))

    by : (o : Ordering) → slice_cmp nat_cmp k l ≡ o
        → given_for name (given_members (put k d ms)) ≡ cond (bytes_eq k name) (Some (given_of d)) (given_for name (given_members ms)) → goal o
    by Less h rest = refl
    by Equal h rest =
        let same : k ≡ l = same_text k l (by_order k l Equal h) in
        over (bytes_eq l name) (Some (given_of d)) (Some (given_of e)) (given_for name (given_members ms))
        ∙ ap (λ t. cond (bytes_eq t name) (Some (given_of d)) (cond (bytes_eq l name) (Some (given_of e)) (given_for name (given_members ms)))) (sym same)
    by Greater h rest =
        ap (λ r. cond (bytes_eq l name) (Some (given_of e)) r) rest
        ∙ chosen (bytes_eq l name) (bytes_eq k name) (Some (given_of e)) (Some (given_of d)) (given_for name (given_members ms))
        (λ t u. (let same : k ≡ l = same_text k name u ∙ sym (same_text l name t) in
        let wrong : true ≡ false = sym (text_itself k) ∙ ap (bytes_eq k) same ∙ by_order k l Greater h in cc))

both : (a b : Bool) → a ≡ true → b ≡ true → (a && b) ≡ true
both a b e h = rw (e, h) refl

parts : (a b : Bool) → (a && b) ≡ true → (a ≡ true) × (b ≡ true)
parts true b e = (refl, e)
parts false b e = cc e

-- a member's name alone says whether it is declared
pub declared_name : (params : List Parameter) (name : List ℕ) (x y : Given) → is_declared params (record { name = name; value = x }) ≡ is_declared params (record { name = name; value = y })
unfolding is_declared
declared_name params name x y = refl

abbrev entry : List ℕ → Data → Member
entry k d = record { name = k; value = given_of d }

pub declared_put : (params : List Parameter) (k : List ℕ) (d : Data) (ms : Members) → is_declared params (entry k d) ≡ true → are_declared params (given_members ms) ≡ true
    → are_declared params (given_members (put k d ms)) ≡ true
declared_put params k d no_members this rest = both _ true this refl
declared_put params k d (member l e ms) this rest =
    by (slice_cmp nat_cmp k l) (declared_put params k d ms this (parts (is_declared params (entry l e)) (are_declared params (given_members ms)) rest).1)
  where
    old : (is_declared params (entry l e) ≡ true) × (are_declared params (given_members ms) ≡ true)
    old = parts (is_declared params (entry l e)) (are_declared params (given_members ms)) rest

    by : (o : Ordering) → are_declared params (given_members (put k d ms)) ≡ true
        → are_declared params (given_members (match_ordering o (member k d (member l e ms)) (member l d ms) (member l e (put k d ms)))) ≡ true
    by Less more = both (is_declared params (entry k d)) _ this rest
    by Equal more = both (is_declared params (entry l d)) _ (declared_name params l (given_of d) (given_of e) ∙ old.0) old.1
    by Greater more = both (is_declared params (entry l e)) _ old.0 more
