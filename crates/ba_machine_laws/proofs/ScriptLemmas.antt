-- Requests by their begin lines, and those that are open after some lines of a script.
use Rattle.std.proofs.Common.{◌≡◌, ◌∙◌, ℕ, ◌+◌, ◌<◌, false, List, [], ◌∷◌, ◌++◌, All, Some, ap, append_assoc, arith, flat_map, inl, inr, length, length-append, refl, slice_get, subst, sym, true≢false, ◌⊎◌}
use Rattle.std.proofs.lemmas.List.{same_from_push}
use Rattle.std.proofs.lemmas.List.Concat.{flat_map-append}
use Rattle.std.proofs.lemmas.List.Elements.{All-head, All-tail, All-cons, All-nil}
use Rattle.std.proofs.lemmas.Option.{same_Some}
use Rattle.std.proofs.lemmas.Slice.Eq.{bytes_eq-Decides}
use Rattle.std.specs.Prelude.{sum_by}
use Rattle.std.specs.Str.{bytes_eq}
use Rattle.ba_lanes.specs.Legal.{contexts_of}
use Rattle.ba_model.specs.declared.policy.Context.{Context}
use Rattle.ba_script.specs.Scripts.{IsOpen, Leaves, NumberedFrom, questions_under}
use Rattle.ba_script.specs.declared.entry.ScriptEntry.{ScriptEntry}
use Rattle.ba_script.specs.declared.entry.ScriptEntry.TheVariants as said

-- ---- begin lines

abbrev name_in : ScriptEntry → List (List ℕ)
name_in (said.Begin request name context) = name ∷ []
name_in (said.Ask request name text) = []
name_in (said.Read request name key arguments questions) = []
name_in (said.End request name) = []
name_in (said.Publish number set) = []

-- the names of the requests, in the order of their begin lines
abbrev names_of : List ScriptEntry → List (List ℕ)
names_of lines = flat_map name_in lines

-- a begin line's number is how many begin lines stand before it, and there its context and its name are
pub record IsNumbered (m : ℕ) (front : List ScriptEntry) (k : ℕ) (name : List ℕ) (context : Context) (rest : List ScriptEntry) : Type 0 where
  pub number : k ≡ m + length (contexts_of front)
  pub context_at : slice_get (contexts_of (front ++ said.Begin k name context ∷ rest)) (length (contexts_of front)) ≡ Some context
  pub name_at : slice_get (names_of (front ++ said.Begin k name context ∷ rest)) (length (contexts_of front)) ≡ Some name

pub numbered : (m : ℕ) (front : List ScriptEntry) (k : ℕ) (name : List ℕ) (context : Context) (rest : List ScriptEntry) → NumberedFrom m (front ++ said.Begin k name context ∷ rest) →
    IsNumbered m front k name context rest
numbered m [] k name context rest h = record { number = let e = h.0 in omega (arith, e); context_at = refl; name_at = refl }
numbered m (said.Begin r n c ∷ front) k name context rest h =
    let it = numbered (m + 1) front k name context rest h.1 in
    record { number = let e = it.number in omega (arith, e); context_at = it.context_at; name_at = it.name_at }
numbered m (said.Ask r n text ∷ front) k name context rest h =
    let it = numbered m front k name context rest h.1 in
    record { number = it.number; context_at = it.context_at; name_at = it.name_at }
numbered m (said.Read r n key args qs ∷ front) k name context rest h =
    let it = numbered m front k name context rest h.1 in
    record { number = it.number; context_at = it.context_at; name_at = it.name_at }
numbered m (said.End r n ∷ front) k name context rest h =
    let it = numbered m front k name context rest h.1 in
    record { number = it.number; context_at = it.context_at; name_at = it.name_at }
numbered m (said.Publish n set ∷ front) k name context rest h =
    let it = numbered m front k name context rest h in
    record { number = it.number; context_at = it.context_at; name_at = it.name_at }

-- ---- open requests

-- the request is open after these lines, under some name
pub record IsOpenAfter (before : List ScriptEntry) (k : ℕ) : Type 0 where
  pub name : List ℕ
  pub asked : ℕ
  pub is_open : IsOpen before name k asked

-- the lines of a script, of which these come first
module _ (all before rest : List ScriptEntry) (numbers : NumberedFrom 0 all) (are : all ≡ before ++ rest) where
  -- the begin line of a request that is open
  begin_line : (name : List ℕ) (k asked : ℕ) (it : IsOpen before name k asked) → IsNumbered 0 it.front k name it.context (it.since ++ rest) × (all ≡ it.front ++ said.Begin k name it.context ∷ (it.since ++ rest))
  begin_line name k asked it =
      let split : all ≡ it.front ++ said.Begin k name it.context ∷ (it.since ++ rest) =
      are ∙ ap (λ lines. lines ++ rest) it.begins ∙ append_assoc it.front (said.Begin k name it.context ∷ it.since) rest in
      (numbered 0 it.front k name it.context (it.since ++ rest) (subst (NumberedFrom 0) split numbers), split)

  -- a request is open under one name
  pub one_name : (name other : List ℕ) (k asked more : ℕ) → IsOpen before name k asked → IsOpen before other k more → name ≡ other
  one_name name other k asked more it that =
      let a = begin_line name k asked it in
      let b = begin_line other k more that in
      let here : k ≡ length (contexts_of it.front) = let e = a.0.number in omega (arith, e) in
      let there : k ≡ length (contexts_of that.front) = let e = b.0.number in omega (arith, e) in
      let left : slice_get (names_of all) k ≡ Some name = ap (slice_get (names_of all)) here ∙ ap (λ lines. slice_get (names_of lines) (length (contexts_of it.front))) a.1 ∙ a.0.name_at in
      let right : slice_get (names_of all) k ≡ Some other = ap (slice_get (names_of all)) there ∙ ap (λ lines. slice_get (names_of lines) (length (contexts_of that.front))) b.1 ∙ b.0.name_at in
      same_Some name other (sym left ∙ right)

  -- a request that is open has begun
  pub has_begun : (name : List ℕ) (k asked : ℕ) → IsOpen before name k asked → k < length (contexts_of before)
  has_begun name k asked it =
      let e = (begin_line name k asked it).0.number in
      let long : length (contexts_of before) ≡ length (contexts_of it.front) + length (contexts_of (said.Begin k name it.context ∷ it.since)) =
      ap (λ lines. length (contexts_of lines)) it.begins
      ∙ ap length (flat_map-append _ it.front (said.Begin k name it.context ∷ it.since))
      ∙ length-append (contexts_of it.front) (contexts_of (said.Begin k name it.context ∷ it.since)) in
      omega (arith, e, long)

  -- it has the context of its begin line
  pub has_context : (name : List ℕ) (k asked : ℕ) (it : IsOpen before name k asked) → slice_get (contexts_of all) k ≡ Some it.context
  has_context name k asked it =
      let a = begin_line name k asked it in
      let here : k ≡ length (contexts_of it.front) = let e = a.0.number in omega (arith, e) in
      ap (slice_get (contexts_of all)) here ∙ ap (λ lines. slice_get (contexts_of lines) (length (contexts_of it.front))) a.1 ∙ a.0.context_at

-- the next line is a begin line: its number is how many requests have begun
pub next_number : (all before rest : List ScriptEntry) (k : ℕ) (name : List ℕ) (context : Context) → NumberedFrom 0 all → all ≡ before ++ said.Begin k name context ∷ rest →
    (k ≡ length (contexts_of before)) × (slice_get (contexts_of all) k ≡ Some context)
next_number all before rest k name context numbers are =
    let it = numbered 0 before k name context rest (subst (NumberedFrom 0) are numbers) in
    let here : k ≡ length (contexts_of before) = let e = it.number in omega (arith, e) in
    (here, ap (slice_get (contexts_of all)) here ∙ ap (λ lines. slice_get (contexts_of lines) (length (contexts_of before))) are ∙ it.context_at)

-- ---- one more line

-- the line begins the request
pub record Opens (line : ScriptEntry) (k : ℕ) : Type 0 where
  pub name : List ℕ
  pub context : Context
  pub is : line ≡ said.Begin k name context

-- the request was open before the line, which leaves it so
pub record WasOpen (before : List ScriptEntry) (line : ScriptEntry) (k : ℕ) : Type 0 where
  pub name : List ℕ
  pub asked : ℕ
  pub was : IsOpen before name k asked
  pub leaves : Leaves name line

pub last_of : {X : Type 0} (xs : List X) → (xs ≡ []) ⊎ ((ys : List X) × (y : X) × (xs ≡ ys ++ y ∷ []))
last_of [] = inl refl
last_of (x ∷ xs) = by (last_of xs)
  where
    by : (xs ≡ []) ⊎ ((ys : List _) × (y : _) × (xs ≡ ys ++ y ∷ [])) → (x ∷ xs ≡ []) ⊎ ((ys : List _) × (y : _) × (x ∷ xs ≡ ys ++ y ∷ []))
    by (inl e) = inr ([], x, ap (λ z. x ∷ z) e)
    by (inr (ys, y, e)) = inr (x ∷ ys, y, ap (λ z. x ∷ z) e)

all_but_last : {X : Type 0} (P : X → Type 0) (xs : List X) (y : X) → All P (xs ++ y ∷ []) → All P xs × P y
all_but_last P [] y all = (All-nil P, All-head P y [] all)
all_but_last P (x ∷ xs) y all =
    let rest = all_but_last P xs y (All-tail P x (xs ++ y ∷ []) all) in
    (All-cons P x xs (All-head P x (xs ++ y ∷ []) all) rest.0, rest.1)

pub opened_before : (before : List ScriptEntry) (line : ScriptEntry) (k : ℕ) → IsOpenAfter (before ++ line ∷ []) k → Opens line k ⊎ WasOpen before line k
opened_before before line k it = by (last_of it.is_open.since)
  where
    at : IsOpen (before ++ line ∷ []) it.name k it.asked
    at = it.is_open

    by : (at.since ≡ []) ⊎ ((ys : List ScriptEntry) × (y : ScriptEntry) × (at.since ≡ ys ++ y ∷ [])) → Opens line k ⊎ WasOpen before line k
    by (inl none) =
        let same = same_from_push before at.front line (said.Begin k it.name at.context) (at.begins ∙ ap (λ z. at.front ++ said.Begin k it.name at.context ∷ z) none) in
        inl (record { name = it.name; context = at.context; is = same.1 })
    by (inr (ys, y, e)) =
        let begin = said.Begin k it.name at.context in
        let same = same_from_push before (at.front ++ begin ∷ ys) line y (at.begins ∙ ap (λ z. at.front ++ begin ∷ z) e ∙ sym (append_assoc at.front (begin ∷ ys) (y ∷ []))) in
        let stay = all_but_last (Leaves it.name) ys y (subst (All (Leaves it.name)) e at.stays) in
        inr (record {
          name = it.name;
          asked = sum_by (questions_under it.name) ys;
          was = record { front = at.front; context = at.context; since = ys; begins = same.0; stays = stay.0; count = refl };
          leaves = subst (Leaves it.name) (sym same.1) stay.1;
        })

-- a name isn't apart from itself
pub not_apart : (name : List ℕ) → bytes_eq name name ≡ false → ⊥
not_apart name e = true≢false (sym ((bytes_eq-Decides name name).1 refl) ∙ e)
