-- Values of terms and rows of facts: what a fit says of them, and fits with lessons added.
use Rattle.std.proofs.Common.{◌≡◌, ℕ, zero, suc, ◌<◌, ◌++◌, List, [], ◌∷◌, map, length, refl, ap, ap₂, sym, ◌∙◌, subst, arith}
use Rattle.std.proofs.lemmas.List.Elements.{All-append, All-cons, All-nil, All-contains}
use Rattle.std.proofs.lemmas.Option.{slice_get-map}
use Rattle.std.specs.List.{All, AllZip, Contains}
use Rattle.std.specs.Option.{option_map}
use Rattle.std.specs.Prelude.{Option, Some, None, slice_get, option_and_then, unwrap_or, ◌≢◌}
use Rattle.ba_model.specs.Conform.{Conforms, TableConforms}
use Rattle.ba_model.specs.Meaning.{rows_of}
use Rattle.ba_model.specs.declared.schema.Schema.{Schema}
use Rattle.ba_model.specs.declared.schema.Table.{Table}
use Rattle.ba_model.specs.declared.value.RowSet.{RowSet}
use Rattle.ba_model.specs.declared.value.Value.{Value}
use Rattle.ba_model.specs.declared.value.Value.TheVariants.{Null}
use Rattle.ba_model.proofs.FitLemmas.{AllZip-at}
use Rattle.ba_facts.specs.Fits.{FactHolds, FitsAt, Instance, LessonHolds, database_of, value_of_term}
use Rattle.ba_facts.specs.Known.{ShownNotNull}
use Rattle.ba_facts.specs.Laws.{NotNullIsTrue}
use Rattle.ba_facts.specs.declared.branch.Branch.{Branch}
use Rattle.ba_facts.specs.declared.term.Fact.{Fact}
use Rattle.ba_facts.specs.declared.term.Lesson.{Lesson}
use Rattle.ba_facts.specs.declared.term.Side.{Side}
use Rattle.ba_facts.specs.declared.term.Side.TheVariants.{One, Two}
use Rattle.ba_facts.specs.declared.term.Term.{Term}
use Rattle.ba_facts.specs.declared.term.Term.TheVariants.{Unknown, Val, Param, Var}
use Rattle.ba_kernel.specs.Effects.{with_lessons}

-- ---- options

pub and_then_is : {A B : Type 0} (f : A → Option B) (o : Option A) (b : B) → option_and_then f o ≡ Some b → (a : A) × (o ≡ Some a) × (f a ≡ Some b)
and_then_is f None b e = cc
and_then_is f (Some a) b e = (a, refl, e)

pub map_is : {A B : Type 0} (f : A → B) (o : Option A) (b : B) → option_map f o ≡ Some b → (a : A) × (o ≡ Some a) × (f a ≡ b)
map_is f None b e = cc
map_is f (Some a) b e = (a, refl, cc)

-- ---- lists

-- an element at a place is one of the list
pub Contains-at : {X : Type 0} (xs : List X) (n : ℕ) (x : X) → slice_get xs n ≡ Some x → Contains xs x
Contains-at [] n x e = cc
Contains-at (y ∷ xs) zero x e = (0, omega arith, cc)
Contains-at (y ∷ xs) (suc n) x e = let h = Contains-at xs n x e in (suc h.0, omega arith, h.2)

-- and each element stands at a place
pub Contains-place : {X : Type 0} (xs : List X) (x : X) → Contains xs x → (n : ℕ) × (slice_get xs n ≡ Some x)
Contains-place [] x (k, below, is) = absurd (omega arith)
Contains-place (y ∷ xs) x (zero, below, is) = (0, ap Some is)
Contains-place (y ∷ xs) x (suc k, below, is) =
    let below' : k < length xs = omega arith in
    let h = Contains-place xs x (k, below', is) in
    (suc h.0, h.1)

pub Contains-map : {X Y : Type 0} (f : X → Y) (xs : List X) (x : X) → Contains xs x → Contains (map f xs) (f x)
Contains-map f xs x h =
    let at = Contains-place xs x h in
    Contains-at (map f xs) at.0 (f x) (slice_get-map f xs at.0 ∙ ap (option_map f) at.1)

pub Contains-from_map : {X Y : Type 0} (f : X → Y) (xs : List X) (y : Y) → Contains (map f xs) y → (x : X) × Contains xs x × (f x ≡ y)
Contains-from_map f xs y h =
    let at = Contains-place (map f xs) y h in
    let x = map_is f (slice_get xs at.0) y (sym (slice_get-map f xs at.0) ∙ at.1) in
    (x.0, Contains-at xs at.0 x.0 x.1, x.2)

-- what holds of all elements holds of one at a place
pub All-at : {X : Type 0} (P : X → Type 0) (xs : List X) (n : ℕ) (x : X) → All P xs → slice_get xs n ≡ Some x → P x
All-at P xs n x all e = All-contains P xs x all (Contains-at xs n x e)

-- the one case of a step
pub one_case : {X : Type 0} (cases : List X) (new : X) → cases ≡ new ∷ [] → Contains cases new
one_case cases new e = subst (λ xs. Contains xs new) (sym e) (Contains-at (new ∷ []) 0 new refl)

-- the one place of the second list that goes with an element of the first
pub AllZip-beside : {A B : Type 0} (R : A → B → Type 0) (xs : List A) (ys : List B) (x : A) → AllZip R xs ys → Contains xs x → (y : B) × Contains ys y × R x y
AllZip-beside R xs ys x all h =
    let at = Contains-place xs x h in
    let y = AllZip-at R xs ys at.0 x all at.1 in
    (y.0, Contains-at ys at.0 y.0 y.1, y.2)

-- an element whose image is known
pub image_at : {A B : Type 0} (f : A → Option B) (xs : List A) (ys : List B) (n : ℕ) (x : A) → map f xs ≡ map Some ys → slice_get xs n ≡ Some x →
    slice_get ys n ≡ f x
image_at f [] ys n x e h = cc
image_at f (a ∷ xs) [] n x e h = cc
image_at f (a ∷ xs) (b ∷ ys) zero x e h = cc
image_at f (a ∷ xs) (b ∷ ys) (suc n) x e h =
    let rest : map f xs ≡ map Some ys = cc in
    image_at f xs ys n x rest h

-- and its place has a value
pub image_there : {A B : Type 0} (f : A → Option B) (xs : List A) (ys : List B) (n : ℕ) (x : A) → map f xs ≡ map Some ys → slice_get xs n ≡ Some x →
    (y : B) × (slice_get ys n ≡ Some y) × (f x ≡ Some y)
image_there f [] ys n x e h = cc
image_there f (a ∷ xs) [] n x e h = cc
image_there f (a ∷ xs) (b ∷ ys) zero x e h = (b, refl, cc)
image_there f (a ∷ xs) (b ∷ ys) (suc n) x e h =
    let rest : map f xs ≡ map Some ys = cc in
    image_there f xs ys n x rest h

-- a list has one image of values
pub one_image : {X : Type 0} (xs ys : List X) → map Some xs ≡ map Some ys → xs ≡ ys
one_image [] [] e = refl
one_image [] (y ∷ ys) e = cc
one_image (x ∷ xs) [] e = cc
one_image (x ∷ xs) (y ∷ ys) e =
    let first : x ≡ y = cc in
    let later : map Some xs ≡ map Some ys = cc in
    ap₂ (λ z zs. z ∷ zs) first (one_image xs ys later)

-- an image with another function that agrees where the first has a value
pub images_stay : {A B : Type 0} (f g : A → Option B) → ((x : A) (y : B) → f x ≡ Some y → g x ≡ Some y) → (xs : List A) (ys : List B) →
    map f xs ≡ map Some ys → map g xs ≡ map Some ys
images_stay f g stays [] [] e = refl
images_stay f g stays [] (y ∷ ys) e = cc
images_stay f g stays (x ∷ xs) [] e = cc
images_stay f g stays (x ∷ xs) (y ∷ ys) e =
    let first : f x ≡ Some y = cc in
    let rest : map f xs ≡ map Some ys = cc in
    ap₂ (λ z zs. z ∷ zs) (stays x y first) (images_stay f g stays xs ys rest)

-- two images are one where the functions agree on all elements that have a value
pub images_equal : {A B C : Type 0} (f : A → Option B) (g h : A → C) → ((x : A) (y : B) → f x ≡ Some y → g x ≡ h x) → (xs : List A) (ys : List B) →
    map f xs ≡ map Some ys → map g xs ≡ map h xs
images_equal f g h agree [] ys e = refl
images_equal f g h agree (x ∷ xs) [] e = cc
images_equal f g h agree (x ∷ xs) (y ∷ ys) e =
    let first : f x ≡ Some y = cc in
    let rest : map f xs ≡ map Some ys = cc in
    ap₂ (λ z zs. z ∷ zs) (agree x y first) (images_equal f g h agree xs ys rest)

-- ---- values

-- a value stays when unknowns are added
slice_get-more : {X : Type 0} (xs ys : List X) (n : ℕ) (x : X) → slice_get xs n ≡ Some x → slice_get (xs ++ ys) n ≡ Some x
slice_get-more [] ys n x e = cc
slice_get-more (a ∷ xs) ys zero x e = e
slice_get-more (a ∷ xs) ys (suc n) x e = slice_get-more xs ys n x e

pub value_stays : (i : Instance) (values more : List Value) (t : Term) (v : Value) → value_of_term i values t ≡ Some v →
    value_of_term i (values ++ more) t ≡ Some v
value_stays i values more (Unknown n) v e = slice_get-more values more n v e
value_stays i values more (Val w) v e = e
value_stays i values more (Param n) v e = e
value_stays i values more (Var n) v e = e

pub values_stay : (i : Instance) (values more : List Value) (ts : List Term) (row : List Value) → map (value_of_term i values) ts ≡ map Some row →
    map (value_of_term i (values ++ more)) ts ≡ map Some row
values_stay i values more = images_stay (value_of_term i values) (value_of_term i (values ++ more)) (value_stays i values more)

-- ---- fits

-- the terms have these values
abbrev pub Tied : Instance → List Value → List Term → List Value → Type 0
Tied i values ts row = map (value_of_term i values) ts ≡ map Some row

module _ (s : Schema) (b : Branch) (i : Instance) (d e : RowSet) (r values : List Value) (fit : FitsAt s b i d e r values) where
  -- a branch that fits, with lessons that are true, fits
  pub lessons_keep_fit : (lessons : List Lesson) → All (LessonHolds i values) lessons → FitsAt s (with_lessons b lessons) i d e r values
  lessons_keep_fit lessons hold =
      record {
        one = fit.one;
        two = fit.two;
        params = fit.params;
        vars = fit.vars;
        sorts = fit.sorts;
        facts = fit.facts;
        learned = All-append (LessonHolds i values) b.known.learned lessons fit.learned hold;
        goal = fit.goal;
      }

  pub lesson_keeps_fit : (lesson : Lesson) → LessonHolds i values lesson → FitsAt s (with_lessons b (lesson ∷ [])) i d e r values
  lesson_keeps_fit lesson holds = lessons_keep_fit (lesson ∷ []) (All-cons (LessonHolds i values) lesson [] holds (All-nil (LessonHolds i values)))

  pub fact_holds : (n : ℕ) (f : Fact) → slice_get b.facts n ≡ Some f → FactHolds i values d e f
  fact_holds n f at = All-at (FactHolds i values d e) b.facts n f fit.facts at

  -- a value whose term is shown not null isn't NULL
  pub full_value : NotNullIsTrue → (ts : List Term) (row : List Value) (column : ℕ) (t : Term) → Tied i values ts row → slice_get ts column ≡ Some t →
      ShownNotNull b.known t → slice_get row column ≢ Some Null
  full_value not_null ts row column t tied at shown is =
      not_null s b i d e r values t fit shown (sym (image_at (value_of_term i values) ts row column t tied at) ∙ is)

-- ---- databases

pub side_conforms : (s : Schema) (d e : RowSet) (side : Side) → Conforms s d → Conforms s e → Conforms s (database_of d e side)
side_conforms s d e One one two = one
side_conforms s d e Two one two = two

-- the rows of a table of the schema, and that they conform
pub table_rows : (s : Schema) (d : RowSet) (number : ℕ) (table : Table) → Conforms s d → slice_get s.tables number ≡ Some table →
    TableConforms d table (rows_of d number)
table_rows s d number table conforms at =
    let list = AllZip-at (TableConforms d) s.tables d.tables number table conforms.tables at in
    let is_list : rows_of d number ≡ list.0 = ap (λ o. unwrap_or o []) list.1 in
    subst (TableConforms d table) (sym is_list) list.2
