-- The search for the first pairing: where it ends, where it goes on, and what comes before.
use Rattle.std.proofs.Common.{◌≡◌, ℕ, zero, suc, ◌+◌, ◌<◌, ◌⊎◌, inl, inr, Bool, true, false, cond, count_by, List, [], ◌∷◌, ◌++◌, eq-eqb, get_or, take, length, map, refl, sym, ap, ◌∙◌, subst, arith, append_assoc, append-nil, length-append}
use Rattle.std.proofs.lemmas.List.{take_more, map-append}
use Rattle.std.proofs.lemmas.List.Sums.{sum_by-append}
use Rattle.std.proofs.lemmas.Option.{slice_get_within}
use Rattle.std.specs.Bool.{OnFalse, OnTrue}
use Rattle.std.specs.Cmp.{ranked, nat_cmp_total, tied_itself}
use Rattle.std.specs.Cmp.Lexicographic.{slice_cmp}
use Rattle.std.specs.Ordering.{nat_cmp, ordering_then}
use Rattle.std.specs.declared.cmp.Ordering.{Ordering}
use Rattle.std.specs.declared.cmp.Ordering.TheVariants.{Less, Equal, Greater}
use Rattle.std.specs.Prelude.{◌==◌, Some, slice_get}
use Rattle.ba_model.specs.declared.policy.Context.{Context}
use Rattle.ba_model.specs.declared.query.Part.{Part}
use Rattle.ba_direct.specs.Cover.{CoversBy, PairsTables}
use Rattle.ba_direct.specs.Search.{IsFirstFrom, NoneFrom}
use Rattle.ba_direct.proofs.PlaceLemmas.{count_step, paired_within}

pub from_true : (b : Bool) (P : Type 0) → b ≡ true → OnTrue b P → P
from_true true P e h = h
from_true false P e h = cc

pub from_false : (b : Bool) (P : Type 0) → b ≡ false → OnFalse b P → P
from_false true P e h = cc
from_false false P e h = h

pub on_true : (b : Bool) (P : Type 0) → (b ≡ true → P) → OnTrue b P
on_true true P f = f refl
on_true false P f = tt

pub on_false : (b : Bool) (P : Type 0) → (b ≡ false → P) → OnFalse b P
on_false true P f = tt
on_false false P f = f refl

-- the tables of two lists, at a place and one further
pub tables_at : (from to tables : List ℕ) (i : ℕ) → map (slice_get from) to ≡ map Some tables → i < length to → i < length tables → slice_get from (get_or to i 0) ≡ Some (get_or tables i 0)
tables_at from [] tables i e h k = absurd (omega (arith, h))
tables_at from (x ∷ xs) [] i e h k = absurd (omega (arith, k))
tables_at from (x ∷ xs) (n ∷ ns) zero e h k = cc
tables_at from (x ∷ xs) (n ∷ ns) (suc i) e h k = tables_at from xs ns i (cc) (omega (arith, h)) (omega (arith, k))

pub tables_more : (from to tables : List ℕ) (i : ℕ) → map (slice_get from) (take i to) ≡ map Some (take i tables) → i < length to → i < length tables → slice_get from (get_or to i 0) ≡ Some (get_or tables i 0) → map (slice_get from) (take (i + 1) to) ≡ map Some (take (i + 1) tables)
tables_more from to tables i e h k s =
    rw (take_more to i 0 h, take_more tables i 0 k, map-append (slice_get from) (take i to) (get_or to i 0 ∷ []), map-append Some (take i tables) (get_or tables i 0 ∷ [])) (cc (e, s))

-- what a pairing says of one of its places
slice_get_mid : (to : List ℕ) (place : ℕ) (more : List ℕ) → slice_get (to ++ place ∷ more) (length to) ≡ Some place
slice_get_mid [] place more = refl
slice_get_mid (i ∷ is) place more = slice_get_mid is place more

pub pair_at : (view q : Part) (to : List ℕ) (place : ℕ) (more : List ℕ) → PairsTables view q (to ++ place ∷ more) → (t : ℕ) × (slice_get q.from place ≡ Some t) × (slice_get view.from (length to) ≡ Some t)
pair_at view q to place more h = paired_within q.from (to ++ place ∷ more) view.from h.tables (length to) place (slice_get_mid to place more)

pub new_place : (view q : Part) (to : List ℕ) (place : ℕ) (more : List ℕ) → PairsTables view q (to ++ place ∷ more) → count_by (λ i. i == place) to ≡ 0
new_place view q to place more h =
    let t = pair_at view q to place more h in
    let one : count_by (λ i. i == place) (to ++ place ∷ more) ≡ 1 = h.once place (slice_get_within q.from place t.0 t.1) in
    let sum = sum_by-append (λ i. cond (i == place) 1 0) to (place ∷ more) in
    let here = count_step place place more true (eq-eqb place place refl) in
    omega (arith, one, sum, here)

-- the order of lists: no list comes before one that it begins with
not_before_front : (xs more : List ℕ) → slice_cmp nat_cmp (xs ++ more) xs ≡ Less → ⊥
not_before_front [] [] e = cc
not_before_front [] (x ∷ more) e = cc
not_before_front (x ∷ xs) more e = not_before_front xs more (rw (tied_itself nat_cmp_total x) at e)

cmp_past_front : (xs a b : List ℕ) → slice_cmp nat_cmp (xs ++ a) (xs ++ b) ≡ slice_cmp nat_cmp a b
cmp_past_front [] a b = refl
cmp_past_front (x ∷ xs) a b = rw (tied_itself nat_cmp_total x) (cmp_past_front xs a b)

first_by : (p q : ℕ) (r s : Ordering) → r ≡ nat_cmp p q → ordering_then r s ≡ Less → (p < q) ⊎ (p ≡ q)
first_by p q Less s e h = inl (ranked p q Less e)
first_by p q Equal s e h = inr (ranked p q Equal e)
first_by p q Greater s e h = cc

-- of two lists that go on from one, the lesser has no greater place there
place_before : (xs : List ℕ) (p q : ℕ) (ps qs : List ℕ) → slice_cmp nat_cmp (xs ++ p ∷ ps) (xs ++ q ∷ qs) ≡ Less → (p < q) ⊎ (p ≡ q)
place_before xs p q ps qs e =
    first_by p q (nat_cmp p q) (slice_cmp nat_cmp ps qs) refl (sym (cmp_past_front xs (p ∷ ps) (q ∷ qs)) ∙ e)

module _ (c : Context) (view q : Part) where
  -- at the end of the pairing
  pub first_here : (to : List ℕ) → CoversBy c view q to → IsFirstFrom c view q to to
  first_here to h =
      record {
        covers = h;
        more = [];
        begins = sym (append-nil to);
        first = λ other less k. not_before_front to other less;
      }

  none_past : (to more : List ℕ) → length to ≡ length q.from → (CoversBy c view q to → ⊥) → CoversBy c view q (to ++ more) → ⊥
  none_past to [] long fails h = fails (subst (CoversBy c view q) (append-nil to) h)
  none_past to (place ∷ more) long fails h = absurd (omega (arith, long, h.pairs.as_many, length-append to (place ∷ more)))

  pub none_here : (to : List ℕ) → length to ≡ length q.from → (CoversBy c view q to → ⊥) → NoneFrom c view q to
  none_here to long fails = record { none = λ more. none_past to more long fails }

  -- the places below this one lead to no cover
  pub record Tried (was : List ℕ) (below : ℕ) : Type 0 where
    pub none : (place : ℕ) → place < below → (more : List ℕ) → CoversBy c view q (was ++ place ∷ more) → ⊥

  one_further : (was before now : List ℕ) (place : ℕ) (more : List ℕ) → before ≡ was → now ≡ before ++ place ∷ [] → now ++ more ≡ was ++ place ∷ more
  one_further was before now place more e f =
      ap (λ xs. xs ++ more) f ∙ (append_assoc before (place ∷ []) more ∙ ap (λ xs. xs ++ place ∷ more) e)

  -- no cover goes on from a place from which the search found none
  pub tried_one : (was before now : List ℕ) (place : ℕ) → before ≡ was → now ≡ before ++ place ∷ [] → NoneFrom c view q now → (more : List ℕ) → CoversBy c view q (was ++ place ∷ more) → ⊥
  tried_one was before now place e f none more h =
      none.none more (subst (CoversBy c view q) (sym (one_further was before now place more e f)) h)

  -- a cover has one place for each of the query, and the next that it has is there
  none_left_by : (to : List ℕ) → (length to ≡ length q.from → ⊥) → Tried to (length q.from) → (more : List ℕ) → CoversBy c view q (to ++ more) → ⊥
  none_left_by to short tried [] h = short (ap length (sym (append-nil to)) ∙ h.pairs.as_many)
  none_left_by to short tried (place ∷ more) h =
      let t = pair_at view q to place more h.pairs in
      tried.none place (slice_get_within q.from place t.0 t.1) more h

  pub none_left : (to : List ℕ) → (length to ≡ length q.from → ⊥) → Tried to (length q.from) → NoneFrom c view q to
  none_left to short tried = record { none = none_left_by to short tried }

  before_first : (was before now to : List ℕ) (place : ℕ) → (length was ≡ length q.from → ⊥) → Tried was place → before ≡ was → now ≡ before ++ place ∷ [] → (found : IsFirstFrom c view q now to) → (other : List ℕ) → slice_cmp nat_cmp (was ++ other) to ≡ Less → CoversBy c view q (was ++ other) → ⊥
  before_first was before now to place short tried e f found [] less h = short (ap length (sym (append-nil was)) ∙ h.pairs.as_many)
  before_first was before now to place short tried e f found (p ∷ ps) less h =
      let is : to ≡ was ++ place ∷ found.more = found.begins ∙ one_further was before now place found.more e f in
      elim (place_before was p place ps found.more (subst (λ xs. slice_cmp nat_cmp (was ++ p ∷ ps) xs ≡ Less) is less)) [
        | inl earlier ↦ tried.none p earlier ps h
        | inr same ↦
            let here : was ++ p ∷ ps ≡ now ++ ps = ap (λ i. was ++ i ∷ ps) same ∙ sym (one_further was before now place ps e f) in
            found.first ps (subst (λ xs. slice_cmp nat_cmp xs to ≡ Less) here less) (subst (CoversBy c view q) here h)
      ]

  -- the first cover from a place is the first of all, where the places below lead to none
  pub first_further : (was before now to : List ℕ) (place : ℕ) → (length was ≡ length q.from → ⊥) → Tried was place → before ≡ was → now ≡ before ++ place ∷ [] → IsFirstFrom c view q now to → IsFirstFrom c view q was to
  first_further was before now to place short tried e f found =
      record {
        covers = found.covers;
        more = place ∷ found.more;
        begins = found.begins ∙ one_further was before now place found.more e f;
        first = before_first was before now to place short tried e f found;
      }
