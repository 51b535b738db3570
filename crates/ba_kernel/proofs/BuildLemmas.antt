-- The steps of the loops that build cases.
use Rattle.std.proofs.Common.{◌≡◌, ℕ, zero, suc, ◌+◌, ◌<◌, ◌≤◌, List, [], ◌∷◌, ◌++◌, length, get_or, take, map, refl, sym, ap, ap₂, ◌∙◌, subst, append_assoc, append-nil, add-one, arith}
use Rattle.std.proofs.lemmas.List.{take_more, take_all, map-append}
use Rattle.std.proofs.lemmas.List.Elements.{All-pop}
use Rattle.std.specs.List.{All, AllZip, range_with_len, zip}
use Rattle.std.specs.Option.{option_map}
use Rattle.std.specs.Prelude.{Option, Some, option_and_then}
use Rattle.ba_model.specs.SchemaFaults.{columns_of}
use Rattle.ba_model.specs.declared.query.Atom.{Atom}
use Rattle.ba_model.specs.declared.query.Operand.{Operand}
use Rattle.ba_model.specs.declared.query.Part.{Part}
use Rattle.ba_model.specs.declared.schema.Column.{Column}
use Rattle.ba_model.specs.declared.schema.Schema.{Schema}
use Rattle.ba_kernel.proofs.CaseFactLemmas.{zip_append}
use Rattle.ba_kernel.proofs.ZipLemmas.{taken}
use Rattle.ba_kernel.specs.Effects.{IsCase, lesson_of, rows_at, same_of, with_fact, with_facts, with_lessons}
use Rattle.ba_facts.specs.Knowing.{sort_of}
use Rattle.ba_facts.specs.Laws.{with_lesson}
use Rattle.ba_facts.specs.Matches.{term_of}
use Rattle.ba_kernel.specs.Tidy.{Learns}
use Rattle.ba_facts.specs.declared.branch.Branch.{Branch}
use Rattle.ba_facts.specs.declared.term.Lesson.{Lesson}
use Rattle.ba_facts.specs.declared.term.Side.{Side}
use Rattle.ba_facts.specs.declared.term.Lesson.TheVariants.{Holds, Same}
use Rattle.ba_facts.specs.declared.term.Term.{Term}
use Rattle.ba_facts.specs.declared.term.Term.TheVariants.{Unknown}

-- ---- one element further

pub all_at : {X : Type 0} (P : X → Type 0) (xs : List X) (i : ℕ) (x : X) → All P xs → i < length xs → x ≡ get_or xs i x → P x
all_at P xs i x all below at = subst P (sym at) (all i x below)

map_more : {X Y : Type 0} (f : X → Y) (xs : List X) (i : ℕ) (x : X) → i < length xs → x ≡ get_or xs i x → map f (take (i + 1) xs) ≡ map f (take i xs) ++ f x ∷ []
map_more f xs i x below at = ap (map f) (taken xs i x below at) ∙ map-append f (take i xs) (x ∷ [])

-- each of the first gives its own of the second
pub gives_more : {X Y : Type 0} (f : X → Option Y) (xs : List X) (i : ℕ) (x : X) (ys zs : List Y) (y : Y) → i < length xs → x ≡ get_or xs i x →
    map f (take i xs) ≡ map Some ys → f x ≡ Some y → zs ≡ ys ++ y ∷ [] → map f (take (i + 1) xs) ≡ map Some zs
gives_more f xs i x ys zs y below at before here pushed =
    map_more f xs i x below at ∙ (ap₂ (λ os o. os ++ o ∷ []) before here ∙ (sym (map-append Some ys (y ∷ [])) ∙ ap (map Some) (sym pushed)))

pub gives_all : {X Y : Type 0} (f : X → Option Y) (xs : List X) (n : ℕ) (ys : List Y) → length xs ≤ n → map f (take n xs) ≡ map Some ys → map f xs ≡ map Some ys
gives_all f xs n ys whole e = subst (λ zs. map f zs ≡ map Some ys) (take_all n xs whole) e

-- two lists in step
pub zip_more : {X Y : Type 0} (R : X → Y → Type 0) (xs : List X) (i : ℕ) (x : X) (ys zs : List Y) (y : Y) → i < length xs → x ≡ get_or xs i x →
    AllZip R (take i xs) ys → R x y → zs ≡ ys ++ y ∷ [] → AllZip R (take (i + 1) xs) zs
zip_more R xs i x ys zs y below at before here pushed =
    subst (λ q. AllZip R q zs) (sym (taken xs i x below at))
    (subst (AllZip R (take i xs ++ x ∷ [])) (sym pushed) (zip_append R (take i xs) (x ∷ []) ys (y ∷ []) before (here, tt)))

pub zip_all : {X Y : Type 0} (R : X → Y → Type 0) (xs : List X) (n : ℕ) (ys : List Y) → length xs ≤ n → AllZip R (take n xs) ys → AllZip R xs ys
zip_all R xs n ys whole h = subst (λ q. AllZip R q ys) (take_all n xs whole) h

-- all but the last, and the last
pub front_all : {X : Type 0} (P : X → Type 0) (xs front : List X) (x : X) → xs ≡ front ++ x ∷ [] → All P xs → All P front
front_all P xs front x is h = (All-pop P xs front (Some x) is h).0

pub last_all : {X : Type 0} (P : X → Type 0) (xs front : List X) (x : X) → xs ≡ front ++ x ∷ [] → All P xs → P x
last_all P xs front x is h = (All-pop P xs front (Some x) is h).1

pub zip_last : {X Y : Type 0} (R : X → Y → Type 0) (xs front : List X) (x : X) (ys zs : List Y) (y : Y) → xs ≡ front ++ x ∷ [] → AllZip R front ys → R x y →
    zs ≡ ys ++ y ∷ [] → AllZip R xs zs
zip_last R xs front x ys zs y is before here pushed =
    subst (λ q. AllZip R q zs) (sym is) (subst (AllZip R (front ++ x ∷ [])) (sym pushed) (zip_append R front (x ∷ []) ys (y ∷ []) before (here, tt)))

numbers_push : (first i : ℕ) → range_with_len first (suc i) ≡ range_with_len first i ++ (first + i) ∷ []
numbers_push first zero = let e : first ≡ first + 0 = omega arith in ap (λ n. n ∷ []) e
numbers_push first (suc i) =
    let last : (first + 1) + i ≡ first + suc i = omega arith in
    ap (λ ns. first ∷ ns) (numbers_push (first + 1) i ∙ ap (λ n. range_with_len (first + 1) i ++ n ∷ []) last)

pub numbers_more : (first i : ℕ) (before new : List ℕ) → new ≡ before ++ (first + i) ∷ [] → before ≡ range_with_len first i → new ≡ range_with_len first (i + 1)
numbers_more first i before new pushed so_far =
    pushed ∙ (ap (λ ns. ns ++ (first + i) ∷ []) so_far ∙ (sym (numbers_push first i) ∙ ap (range_with_len first) (sym (add-one i))))

-- ---- facts

pub facts_push : (s : Schema) (side : Side) (round : ℕ) (b : Branch) (from : List ℕ) (table : ℕ) →
    with_facts s side round b (from ++ table ∷ []) ≡ with_fact s side round (with_facts s side round b from) table
facts_push s side round b [] table = refl
facts_push s side round b (first ∷ from) table = facts_push s side round (with_fact s side round b first) from table

pub fact_added : (s : Schema) (side : Side) (round : ℕ) (mid new : Branch) (table : ℕ) (columns : List Column) → columns ≡ columns_of s.tables table →
    new ≡ record mid {
      known = record mid.known { unknowns = mid.known.unknowns ++ map sort_of columns };
      facts = mid.facts ++ record { side = side; table = table; terms = map Unknown (range_with_len (length mid.known.unknowns) (length columns)); round = round } ∷ [];
    } → new ≡ with_fact s side round mid table
fact_added s side round mid new table columns same e =
    e ∙ ap
    (λ (cs : List Column). record mid {
      known = record mid.known { unknowns = mid.known.unknowns ++ map sort_of cs };
      facts = mid.facts ++ record { side = side; table = table; terms = map Unknown (range_with_len (length mid.known.unknowns) (length cs)); round = round } ∷ [];
    })
    same

pub facts_more : (s : Schema) (side : Side) (round : ℕ) (b mid new : Branch) (from : List ℕ) (i : ℕ) → i < length from →
    mid ≡ with_facts s side round b (take i from) → new ≡ with_fact s side round mid (get_or from i 0) → new ≡ with_facts s side round b (take (i + 1) from)
facts_more s side round b mid new from i below before here =
    here ∙ (ap (λ c. with_fact s side round c (get_or from i 0)) before ∙
    (sym (facts_push s side round b (take i from) (get_or from i 0)) ∙ ap (with_facts s side round b) (sym (take_more from i 0 below))))

pub facts_all : (s : Schema) (side : Side) (round : ℕ) (b new : Branch) (from : List ℕ) (n : ℕ) → length from ≤ n →
    new ≡ with_facts s side round b (take n from) → new ≡ with_facts s side round b from
facts_all s side round b new from n whole e = e ∙ ap (with_facts s side round b) (take_all n from whole)

-- ---- lessons

pub learns_none : (b : Branch) → Learns [] b b
learns_none b =
    record {
      lessons = [];
      are = refl;
      new_is = ap (λ ls. record b { known = record b.known { learned = ls } }) (sym (append-nil b.known.learned));
    }

learns_push : (found : List (Option Lesson)) (o : Option Lesson) (lesson : Lesson) (old mid new : Branch) → Learns found old mid → o ≡ Some lesson →
    new ≡ with_lesson mid lesson → Learns (found ++ o ∷ []) old new
learns_push found o lesson old mid new h is new_is =
    record {
      lessons = h.lessons ++ lesson ∷ [];
      are = ap₂ (λ os p. os ++ p ∷ []) h.are is ∙ sym (map-append Some h.lessons (lesson ∷ []));
      new_is =
          new_is ∙ (ap (λ c. with_lesson c lesson) h.new_is ∙
          ap (λ ls. record old { known = record old.known { learned = ls } }) (append_assoc old.known.learned h.lessons (lesson ∷ [])));
    }

pub learns_more : {X : Type 0} (f : X → Option Lesson) (xs : List X) (i : ℕ) (x : X) (lesson : Lesson) (old mid new : Branch) → i < length xs → x ≡ get_or xs i x →
    Learns (map f (take i xs)) old mid → f x ≡ Some lesson → new ≡ with_lesson mid lesson → Learns (map f (take (i + 1) xs)) old new
learns_more f xs i x lesson old mid new below at h is new_is =
    subst (λ os. Learns os old new) (sym (map_more f xs i x below at)) (learns_push (map f (take i xs)) (f x) lesson old mid new h is new_is)

pub learns_all : {X : Type 0} (f : X → Option Lesson) (xs : List X) (n : ℕ) (old new : Branch) → length xs ≤ n → Learns (map f (take n xs)) old new →
    Learns (map f xs) old new
learns_all f xs n old new whole h = subst (λ ys. Learns (map f ys) old new) (take_all n xs whole) h

-- what is learned leaves the facts' terms
pub rows_kept : (found : List (Option Lesson)) (old new : Branch) (facts : List ℕ) → Learns found old new → rows_at new facts ≡ rows_at old facts
rows_kept found old new facts h = ap (λ b. rows_at b facts) h.new_is

pub atom_lesson : (old mid : List (List Term)) (atom : Atom) (left right : Term) → mid ≡ old → term_of mid atom.left ≡ Some left → term_of mid atom.right ≡ Some right →
    lesson_of old atom ≡ Some (Holds (record { op = atom.op; left = left; right = right }))
atom_lesson old mid atom left right same l r =
    let left_is = subst (λ rows. term_of rows atom.left ≡ Some left) same l in
    let right_is = subst (λ rows. term_of rows atom.right ≡ Some right) same r in
    ap₂ (λ o p. option_and_then (λ a. option_map (λ b. Holds (record { op = atom.op; left = a; right = b })) p) o) left_is right_is

pub head_lesson : (old mid : List (List Term)) (operand : Operand) (t u : Term) → mid ≡ old → term_of mid operand ≡ Some t → same_of old (operand, u) ≡ Some (Same t u)
head_lesson old mid operand t u same is = ap (option_map (λ a. Same a u)) (subst (λ rows. term_of rows operand ≡ Some t) same is)

-- ---- the case of a part

pub is_case : (s : Schema) (old mid new : Branch) (side : Side) (round : ℕ) (row : List Term) (part : Part) (numbers : List ℕ) →
    length part.head ≡ length row → numbers ≡ range_with_len (length old.facts) (length part.from) →
    Learns (map (lesson_of (rows_at (with_facts s side round old part.from) numbers)) part.conds) (with_facts s side round old part.from) mid →
    Learns (map (same_of (rows_at mid numbers)) (zip part.head row)) mid new → IsCase s old side round row part new
is_case s old mid new side round row part numbers wide numbers_are atoms heads =
    let with_rows = with_facts s side round old part.from in
    let range = range_with_len (length old.facts) (length part.from) in
    let kept = rows_kept (map (lesson_of (rows_at with_rows numbers)) part.conds) with_rows mid numbers atoms in
    record {
      atoms = atoms.lessons;
      heads = heads.lessons;
      wide = wide;
      atoms_are = subst (λ ns. map (lesson_of (rows_at with_rows ns)) part.conds ≡ map Some atoms.lessons) numbers_are atoms.are;
      heads_are =
          subst (λ ns. map (same_of (rows_at with_rows ns)) (zip part.head row) ≡ map Some heads.lessons) numbers_are
          (subst (λ rows. map (same_of rows) (zip part.head row) ≡ map Some heads.lessons) kept heads.are);
      new_is =
          heads.new_is ∙ (ap (λ b. with_lessons b heads.lessons) atoms.new_is ∙
          ap (λ ls. record with_rows { known = record with_rows.known { learned = ls } }) (append_assoc with_rows.known.learned atoms.lessons heads.lessons));
    }
