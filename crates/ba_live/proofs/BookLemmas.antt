-- What is open and what may be told, after a change at one name or line.
use Rattle.std.proofs.Common.{◌≡◌, ◌∙◌, ℕ, ◌==◌, Bool, true, false, not, ◌||◌, List, [], ◌∷◌, Option, Some, None, Result, Ok, Err, cond, refl, sym, ap, subst, inl, inr, ◌⊎◌}
use Rattle.std.proofs.lemmas.Bool.{eq-eqb, eqb-false, eqb-true, ne_eqb}
use Rattle.std.proofs.lemmas.Slice.Eq.{bytes_eq-Decides}
use Rattle.std.specs.BTreeMap.{is_at}
use Rattle.std.specs.Cmp.Lexicographic.{slice_cmp}
use Rattle.std.specs.List.{Contains}
use Rattle.std.specs.Option.{is_some}
use Rattle.std.specs.Ordering.{nat_cmp}
use Rattle.std.specs.Result.{OnErr}
use Rattle.std.specs.Str.{bytes_eq}
use Rattle.ba_model.proofs.ElementLemmas.{Contains-cases, Contains-head, Contains-later, Contains-nil}
use Rattle.ba_script.proofs.TrackingLemmas.{chosen}
use Rattle.ba_live.specs.Askers.{without}
use Rattle.ba_live.specs.Books.{Expects, LeavesOpen, Opens, asked_in, is_among, open_in}
use Rattle.ba_live.specs.declared.books.Questions.{Questions}
use Rattle.ba_live.specs.declared.books.Requests.{Requests}
use Rattle.ba_live.specs.declared.open.Asked.{Asked}
use Rattle.ba_live.specs.declared.open.Open.{Open}

-- ---- values

pub same_some : {X : Type 0} (x y : X) → Some x ≡ Some y → x ≡ y
same_some x y e = cc

pub none_some : {X : Type 0} (x : X) (o : Option X) → o ≡ None → o ≡ Some x → ⊥
none_some x o e f = cc

pub bytes_same : (a : List ℕ) → bytes_eq a a ≡ true
bytes_same a = (bytes_eq-Decides a a).1 refl

pub bytes_equal : (a b : List ℕ) → bytes_eq a b ≡ true → a ≡ b
bytes_equal a b e = (bytes_eq-Decides a b).0 e

bool_cases : (b : Bool) → (b ≡ true) ⊎ (b ≡ false)
bool_cases true = inl refl
bool_cases false = inr refl

pub after_error : {T E P : Type 0} (r : Result T E) → P → OnErr r P
after_error (Ok x) p = tt
after_error (Err e) p = p

-- ---- a change at one name

-- the value at a name after a change: the new one under this name, or what was under another
pub data At {X : Type 0} (here : Type 0) (away : Type 0) (now was : Option X) (it : X) : Type 0 where
  this : here → now ≡ Some it → At here away now was it
  that : away → was ≡ Some it → At here away now was it

cond_at : {X : Type 0} (b : Bool) (here away : Type 0) (now was is : Option X) (it : X) → is ≡ cond b now was → is ≡ Some it → (b ≡ true → here) → (b ≡ false → away) → At here away now was it
cond_at true here away now was is it e has same apart = this (same refl) (sym e ∙ has)
cond_at false here away now was is it e has same apart = that (apart refl) (sym e ∙ has)

pub opened_at : (name : List ℕ) (now : Option Open) (old new : Requests) (other : List ℕ) (asker : Open) → Opens name now old new → open_in new other ≡ Some asker
    → At (name ≡ other) (bytes_eq name other ≡ false) now (open_in old other) asker
opened_at name now old new other asker opens is =
    cond_at (bytes_eq name other) (name ≡ other) (bytes_eq name other ≡ false) now (open_in old other) (open_in new other) asker (opens.each other) is (bytes_equal name other) (λ e. e)

pub opens_here : (name : List ℕ) (now : Option Open) (old new : Requests) → Opens name now old new → open_in new name ≡ now
opens_here name now old new opens = opens.each name ∙ ap (λ b. cond b now (open_in old name)) (bytes_same name)

pub opens_away : (name : List ℕ) (now : Option Open) (old new : Requests) (other : List ℕ) → Opens name now old new → bytes_eq name other ≡ false → open_in new other ≡ open_in old other
opens_away name now old new other opens away = opens.each other ∙ ap (λ b. cond b now (open_in old other)) away

pub asked_after : (line : ℕ) (now : Option Asked) (old new : Questions) (other : ℕ) (asked : Asked) → Expects line now old new → asked_in new other ≡ Some asked
    → At (line ≡ other) (line ≡ other → ⊥) now (asked_in old other) asked
asked_after line now old new other asked expects is =
    cond_at (line == other) (line ≡ other) (line ≡ other → ⊥) now (asked_in old other) (asked_in new other) asked (expects.each other) is (eqb-true line other) (eqb-false line other)

pub expects_here : (line : ℕ) (now : Option Asked) (old new : Questions) → Expects line now old new → asked_in new line ≡ now
expects_here line now old new expects = expects.each line ∙ ap (λ b. cond b now (asked_in old line)) (eq-eqb line line refl)

pub expects_away : (line : ℕ) (now : Option Asked) (old new : Questions) (other : ℕ) → Expects line now old new → (line ≡ other → ⊥) → asked_in new other ≡ asked_in old other
expects_away line now old new other expects away = expects.each other ∙ ap (λ b. cond b now (asked_in old other)) (ne_eqb line other away)

-- nothing was open under the name, and nothing is
pub none_closes : (name : List ℕ) (old new : Requests) → Opens name None old new → open_in old name ≡ None → LeavesOpen old new
none_closes name old new opens free = record { each = λ other. opens.each other ∙ by other (bytes_eq name other) refl }
  where
    by : (other : List ℕ) (b : Bool) → bytes_eq name other ≡ b → cond b None (open_in old other) ≡ open_in old other
    by other true same = sym (sym (ap (open_in old) (bytes_equal name other same)) ∙ free)
    by other false apart = refl

pub none_is : {X : Type 0} (o : Option X) (b : Bool) → b ≡ is_some o → b ≡ false → o ≡ None
none_is None b e f = refl
none_is (Some x) b e f = cc

-- ---- lines

-- of the other lines each is one of the lines
pub without_within : (line : ℕ) (lines : List ℕ) (x : ℕ) → Contains (without line lines) x → Contains lines x
without_within line [] x there = there
without_within line (y ∷ ys) x there = by (not (y == line)) (λ later. without_within line ys x later) there
  where
    by : (b : Bool) → (Contains (without line ys) x → Contains ys x) → Contains (cond b (y ∷ without line ys) (without line ys)) x → Contains (y ∷ ys) x
    by true within there =
        elim (Contains-cases y (without line ys) x there) [
          | inl same ↦ subst (Contains (y ∷ ys)) same (Contains-head y ys)
          | inr later ↦ Contains-later y ys x (within later)
        ]
    by false within there = Contains-later y ys x (within there)

-- and no other than the one is missing
pub without_has : (line : ℕ) (lines : List ℕ) (x : ℕ) → Contains lines x → (line ≡ x → ⊥) → Contains (without line lines) x
without_has line [] x there away = there
without_has line (y ∷ ys) x there away =
    elim (bool_cases (y == line)) [
      | inl same ↦
          subst (λ b. Contains (cond (not b) (y ∷ without line ys) (without line ys)) x) (sym same)
          (elim (Contains-cases y ys x there) [
            | inl is ↦ absurd (away (sym (eqb-true y line same) ∙ is))
            | inr later ↦ without_has line ys x later away
          ])
      | inr other ↦
          subst (λ b. Contains (cond (not b) (y ∷ without line ys) (without line ys)) x) (sym other)
          (elim (Contains-cases y ys x there) [
            | inl is ↦ subst (Contains (y ∷ without line ys)) is (Contains-head y (without line ys))
            | inr later ↦ Contains-later y (without line ys) x (without_has line ys x later away)
          ])
    ]

-- the one is missing
pub without_not : (line : ℕ) (lines : List ℕ) → Contains (without line lines) line → ⊥
without_not line [] there = Contains-nil line there
without_not line (y ∷ ys) there =
    elim (bool_cases (y == line)) [
      | inl same ↦ without_not line ys (subst (λ b. Contains (cond (not b) (y ∷ without line ys) (without line ys)) line) same there)
      | inr other ↦
          elim (Contains-cases y (without line ys) line (subst (λ b. Contains (cond (not b) (y ∷ without line ys) (without line ys)) line) other there)) [
            | inl is ↦ eqb-false y line other is
            | inr later ↦ without_not line ys later
          ]
    ]

pub among_contains : (lines : List ℕ) (line : ℕ) → is_among lines line ≡ true → Contains lines line
among_contains [] line e = cc
among_contains (x ∷ xs) line e =
    elim (bool_cases (x == line)) [
      | inl same ↦ subst (Contains (x ∷ xs)) (eqb-true x line same) (Contains-head x xs)
      | inr other ↦ Contains-later x xs line (among_contains xs line (rest (x == line) (is_among xs line) other e))
    ]
  where
    rest : (a b : Bool) → a ≡ false → (a || b) ≡ true → b ≡ true
    rest true b f e = cc
    rest false b f e = e

pub contains_among : (lines : List ℕ) (line : ℕ) → Contains lines line → is_among lines line ≡ true
contains_among [] line there = absurd (Contains-nil line there)
contains_among (x ∷ xs) line there =
    elim (Contains-cases x xs line there) [
      | inl same ↦ first (x == line) (is_among xs line) (eq-eqb x line same)
      | inr later ↦ second (x == line) (is_among xs line) (contains_among xs line later)
    ]
  where
    first : (a b : Bool) → a ≡ true → (a || b) ≡ true
    first a b e = ap (λ t. t || b) e

    second : (a b : Bool) → b ≡ true → (a || b) ≡ true
    second true b e = refl
    second false b e = e

-- ---- what is written through a reference

-- what is written at the name at which this was open
pub written_under : (name : List ℕ) (asker before after : Open) (old new : Requests) → open_in old name ≡ Some asker → open_in old name ≡ Some before
    → ((other : List ℕ) → open_in new other ≡ cond (is_at (slice_cmp nat_cmp name) other) (Some after) (open_in old other)) → (f : Open → Open) → after ≡ f before → Opens name (Some (f asker)) old new
written_under name asker before after old new is was writes f made =
    record {
      each = λ other.
          chosen name other (Some (f asker)) (open_in old other) (open_in new other)
          (writes other ∙ ap (λ (o : Open). cond (is_at (slice_cmp nat_cmp name) other) (Some o) (open_in old other)) (made ∙ ap f (same_some before asker (sym was ∙ is))));
    }

-- what was there is written back
pub written_same : (name : List ℕ) (before after : Open) (old new : Requests) → open_in old name ≡ Some before
    → ((other : List ℕ) → open_in new other ≡ cond (is_at (slice_cmp nat_cmp name) other) (Some after) (open_in old other)) → after ≡ before → LeavesOpen old new
written_same name before after old new was writes same =
    record { each = λ other. chosen name other (Some after) (open_in old other) (open_in new other) (writes other) ∙ here other (bytes_eq name other) refl }
  where
    here : (other : List ℕ) (b : Bool) → bytes_eq name other ≡ b → cond b (Some after) (open_in old other) ≡ open_in old other
    here other true e = ap (λ (o : Open). Some o) same ∙ (sym was ∙ ap (open_in old) (bytes_equal name other e))
    here other false e = refl
