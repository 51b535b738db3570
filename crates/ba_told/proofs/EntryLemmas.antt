-- The entries of the lists of rows.
use Rattle.std.proofs.Common.{◌≡◌, ◌≢◌, ◌∙◌, ℕ, zero, suc, ◌+◌, ◌<◌, ◌^◌, inl, inr, List, [], ◌∷◌, ◌++◌, length, Some, None, refl, sym, ap, subst, append-nil, arith}
use Rattle.std.proofs.lemmas.List.Elements.{All-contains, Contains-append_cases, Contains-append_left, Contains-append_right}
use Rattle.std.specs.List.{Contains}
use Rattle.std.specs.Prelude.{slice_get}
use Rattle.ba_comply.proofs.ComplyLemmas.{All-from_contains}
use Rattle.ba_comply.specs.declared.trace.TraceEntry.{TraceEntry}
use Rattle.ba_model.proofs.ElementLemmas.{Contains-cases, Contains-head, Contains-nil}
use Rattle.ba_model.specs.declared.policy.Context.{Context}
use Rattle.ba_model.specs.declared.query.Part.{Part}
use Rattle.ba_model.specs.declared.query.Query.{Query}
use Rattle.ba_model.specs.declared.schema.Schema.{Schema}
use Rattle.ba_model.specs.declared.value.Value.{Value}
use Rattle.ba_parts.specs.Recording.{AreEntries, IsEntryOf, IsRecordedIn, IsUnder}
use Rattle.ba_told.specs.Places.{AreByPlace, IsInList, IsOfList, IsPlace, alone_or, entries_in, entry_in, list_of, question_at}
use Rattle.ba_told.specs.declared.entries.Place.{Place}
use Rattle.ba_told.specs.declared.entries.Place.TheVariants.{Nowhere, Alone, Whole}

some_is : {X : Type 0} (x y : X) → Some x ≡ Some y → x ≡ y
some_is x y e = cc

some_one : {X : Type 0} (x : X) (xs : List X) → x ∷ xs ≡ [] → ⊥
some_one x xs e = cc

past_end : {X : Type 0} (xs : List X) → slice_get xs (length xs) ≡ None
past_end [] = refl
past_end (x ∷ xs) = past_end xs

-- ---- under what a row of a list is recorded

under_of : (s : Schema) (c : Context) (q : Query) (row : List Value) (number : ℕ) → IsOfList s c q.parts number row → IsUnder s c q row (question_at q number)
under_of s c q row number is = by_place is.place is.is_place is.list
  where
    by_place : (place : Place) → IsPlace s c row q.parts place → list_of (length q.parts) place ≡ Some number → IsUnder s c q row (question_at q number)
    by_place Nowhere h e = cc
    by_place (Alone at) h e =
        record {
          parts = h.part ∷ [];
          chosen = h.chosen;
          some = some_one h.part [];
          under_is = ap (alone_or q) (ap (slice_get q.parts) (sym (some_is at number e)) ∙ h.at);
        }
    by_place Whole h e =
        record {
          parts = h.one ∷ h.other ∷ h.more;
          chosen = h.chosen;
          some = some_one h.one (h.other ∷ h.more);
          under_is = ap (alone_or q) (ap (slice_get q.parts) (sym (some_is (length q.parts) number e)) ∙ past_end q.parts);
        }

-- ---- which entries there are

abbrev entry_at : Query → ℕ → List (List Value) → TraceEntry
entry_at q number list = record { query = question_at q number; rows = list }

entry_there : (q : Query) (number : ℕ) (list : List (List Value)) → list ≢ [] → Contains (entry_in q number list) (entry_at q number list)
entry_there q number [] some = absurd (some refl)
entry_there q number (row ∷ rows) some = Contains-head (entry_at q number (row ∷ rows)) []

later_number : (number i : ℕ) → (number + 1) + i ≡ number + suc i
later_number number i = omega arith

entries_there : (q : Query) (number : ℕ) (lists : List (List (List Value))) (i : ℕ) (list : List (List Value)) → slice_get lists i ≡ Some list → list ≢ [] → Contains (entries_in q number lists) (entry_at q (number + i) list)
entries_there q number [] i list at some = cc
entries_there q number (first ∷ lists) zero list at some =
    let same : first ≡ list = some_is first list at in
    let none : number ≡ number + 0 = omega arith in
    Contains-append_left (entry_in q number first) (entries_in q (number + 1) lists) (entry_at q (number + 0) list)
    (subst (λ n. Contains (entry_in q number first) (entry_at q n list)) none (subst (λ l. Contains (entry_in q number l) (entry_at q number list)) (sym same) (entry_there q number list some)))
entries_there q number (first ∷ lists) (suc i) list at some =
    Contains-append_right (entry_in q number first) (entries_in q (number + 1) lists) (entry_at q (number + suc i) list)
    (subst (λ n. Contains (entries_in q (number + 1) lists) (entry_at q n list)) (later_number number i) (entries_there q (number + 1) lists i list at some))

-- an entry is that of a list
pub record IsOfSome (q : Query) (number : ℕ) (lists : List (List (List Value))) (entry : TraceEntry) : Type 0 where
  pub i : ℕ
  pub list : List (List Value)
  pub at : slice_get lists i ≡ Some list
  pub some : list ≢ []
  pub is : entry ≡ entry_at q (number + i) list

of_entry : (q : Query) (number : ℕ) (list : List (List Value)) (entry : TraceEntry) → Contains (entry_in q number list) entry → (list ≢ []) × (entry ≡ entry_at q number list)
of_entry q number [] entry there = absurd (Contains-nil entry there)
of_entry q number (row ∷ rows) entry there =
    elim (Contains-cases (entry_at q number (row ∷ rows)) [] entry there) [
      | inl same ↦ (some_one row rows, sym same)
      | inr none ↦ absurd (Contains-nil entry none)
    ]

of_entries : (q : Query) (number : ℕ) (lists : List (List (List Value))) (entry : TraceEntry) → Contains (entries_in q number lists) entry → IsOfSome q number lists entry
of_entries q number [] entry there = absurd (Contains-nil entry there)
of_entries q number (list ∷ lists) entry there =
    elim (Contains-append_cases (entry_in q number list) (entries_in q (number + 1) lists) entry there) [
      | inl here ↦
          let own = of_entry q number list entry here in
          let none : number ≡ number + 0 = omega arith in
          record { i = 0; list = list; at = refl; some = own.0; is = own.1 ∙ ap (λ n. entry_at q n list) none }
      | inr later ↦
          let rest = of_entries q (number + 1) lists entry later in
          record { i = suc rest.i; list = rest.list; at = rest.at; some = rest.some; is = rest.is ∙ ap (λ n. entry_at q n rest.list) (later_number number rest.i) }
    ]

no_row : (list : List (List Value)) (row : List Value) → Contains list row → list ≢ []
no_row list row there e = Contains-nil row (subst (λ l. Contains l row) e there)

-- ---- the entries tell the rows

module _ (s : Schema) (c : Context) (q : Query) (rows : List (List Value)) (lists : List (List (List Value))) (are : AreByPlace s c q.parts rows lists) where
  from_zero : (row : List Value) (number : ℕ) → IsUnder s c q row (question_at q number) → IsUnder s c q row (question_at q (0 + number))
  from_zero row number h = let none : number ≡ 0 + number = omega arith in subst (λ n. IsUnder s c q row (question_at q n)) none h

  recorded : (row : List Value) → Contains rows row → IsRecordedIn s c q (entries_in q 0 lists) row
  recorded row there =
      let is = All-contains (IsInList s c q.parts lists) rows row are.all there in
      record {
        entry = entry_at q (0 + is.number) is.list;
        there = entries_there q 0 lists is.number is.list is.at (no_row is.list row is.in_it);
        under = from_zero row is.number (under_of s c q row is.number is.belongs);
        in_it = is.in_it;
      }

  of_rows : (entry : TraceEntry) → Contains (entries_in q 0 lists) entry → IsEntryOf s c q rows entry
  of_rows entry there =
      let is = of_entries q 0 lists entry there in
      let belong = are.only is.i is.list is.at in
      subst (IsEntryOf s c q rows) (sym is.is)
      (record {
        some = is.some;
        from = All-from_contains (Contains rows) is.list (λ row here. (All-contains (λ (r : List Value). Contains rows r × IsOfList s c q.parts is.i r) is.list row belong here).0);
        under = All-from_contains (λ row. IsUnder s c q row (question_at q (0 + is.i))) is.list
            (λ row here. from_zero row is.i (under_of s c q row is.i (All-contains (λ (r : List Value). Contains rows r × IsOfList s c q.parts is.i r) is.list row belong here).1));
      })

  pub are_entries : AreEntries s c q rows (entries_in q 0 lists)
  are_entries = record {
    all = All-from_contains (IsRecordedIn s c q (entries_in q 0 lists)) rows recorded;
    only = All-from_contains (IsEntryOf s c q rows) (entries_in q 0 lists) of_rows;
  }

-- ---- a question of one part

small_parts : (parts : List Part) (place : ℕ) → length parts < 2 → alone_or (record { parts = parts }) (slice_get parts place) ≡ record { parts = parts }
small_parts [] place low = refl
small_parts (part ∷ []) zero low = refl
small_parts (part ∷ []) (suc place) low = refl
small_parts (part ∷ other ∷ more) place low = absurd (omega (arith, low))

pub small_question : (q : Query) (place : ℕ) → length q.parts < 2 → question_at q place ≡ q
small_question q place low = small_parts q.parts place low

-- ---- one list after another

pub place_fits : {X : Type 0} (place : ℕ) (left more all lists : List X) (x : X) → place + length left ≡ length all → left ≡ x ∷ more → all ≡ lists → length lists < 2 ^ 64 → place + 1 < 2 ^ 64
place_fits place left more all lists x count left_is all_is low =
    let one : length left ≡ suc (length more) = ap length left_is in
    let same : length all ≡ length lists = ap length all_is in
    omega (arith, count, one, same, low)

pub all_entries : (q : Query) (place : ℕ) (entries : List TraceEntry) (left all lists : List (List (List Value))) → entries ++ entries_in q place left ≡ entries_in q 0 all → length left ≡ 0 → all ≡ lists → entries ≡ entries_in q 0 lists
all_entries q place entries [] all lists e none all_is = sym (append-nil entries) ∙ e ∙ ap (entries_in q 0) all_is
all_entries q place entries (x ∷ left) all lists e none all_is = absurd (omega (arith, none))
