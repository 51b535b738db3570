-- The steps find exactly the told rows that clash.
use Rattle.std.proofs.Common.{◌≡◌, ◌∙◌, ℕ, zero, suc, ◌+◌, ◌<◌, ◌≤◌, ◌⊎◌, Bool, false, IsTrue, inl, inr, List, [], ◌∷◌, ◌++◌, length, refl, sym, ap, subst, arith}
use Rattle.std.proofs.lemmas.List.Elements.{All-weaker, Contains-append_cases, Contains-append_left, Contains-append_right}
use Rattle.std.proofs.lemmas.Bool.{cases_lt}
use Rattle.std.proofs.lemmas.Option.{slice_get_within}
use Rattle.std.specs.List.{All, Any, Contains}
use Rattle.std.specs.Prelude.{◌↔◌, Some, slice_get}
use Rattle.ba_model.proofs.ElementLemmas.{Contains-cases, Contains-nil}
use Rattle.ba_model.specs.declared.policy.Context.{Context}
use Rattle.ba_model.specs.declared.query.Part.{Part}
use Rattle.ba_model.specs.declared.schema.Schema.{Schema}
use Rattle.ba_model.specs.declared.schema.Table.{Table}
use Rattle.ba_model.specs.declared.value.Value.{Value}
use Rattle.ba_comply.specs.declared.trace.TraceEntry.{TraceEntry}
use Rattle.ba_clash.specs.Clash.{Clashes, IsApart, IsShared, IsTold, Told}
use Rattle.ba_clash.specs.Steps.{Clash, Differ, IsFilled, IsMet, IsMetAt, IsMetEntry, IsMetIn, KnowsKey, MeetsEntry, IsSoAt, MeetsNew, MeetsOld, NoneBelow, only_of, told}

-- ---- lists

some_is : {X : Type 0} (a b : X) → Some a ≡ Some b → a ≡ b
some_is a b e = cc

any_there : {X : Type 0} (P : X → Type 0) (xs : List X) → Any P xs → (x : X) × Contains xs x × P x
any_there P xs (k, x, low, at, p) = (x, (k, low, at), p)

there_any : {X : Type 0} (P : X → Type 0) (xs : List X) (x : X) → Contains xs x → P x → Any P xs
there_any P xs x (k, low, at) p = (k, x, low, at, p)

there_at : {X : Type 0} (xs : List X) (x : X) → Contains xs x → (i : ℕ) × (slice_get xs i ≡ Some x)
there_at [] x there = absurd (Contains-nil x there)
there_at (y ∷ xs) x there =
    elim (Contains-cases y xs x there) [
      | inl same ↦ (zero, ap Some same)
      | inr later ↦ let rest = there_at xs x later in (suc rest.0, rest.1)
    ]

only_is : (parts : List Part) (part : Part) → only_of parts ≡ Some part → parts ≡ part ∷ []
only_is [] part e = cc
only_is (it ∷ []) part e = ap (λ p. p ∷ []) (some_is it part e)
only_is (it ∷ other ∷ more) part e = cc

-- ---- what is found clashes

-- a row of the entries clashes with the one
pub record IsFound (c : Context) (entries : List TraceEntry) (number : ℕ) (table : Table)
    (one : Told) : Type 0 where
  pub other : Told
  pub other_told : IsTold entries number other
  pub clash : Clash c table one other

module _ (c : Context) (number : ℕ) (table : Table) (one : Told) where
  entry_found : (entries : List TraceEntry) (entry : TraceEntry) → Contains entries entry
      → MeetsEntry c number table one entry → IsFound c entries number table one
  entry_found entries entry there h =
      let in_it = h.met in
      let place = in_it.place in
      let found =
      any_there (λ row. Clash c table one (told h.part row place)) entry.rows (in_it.met).met in
      record {
        other = told h.part found.0 place;
        other_told =
            record {
              entry = entry;
              there = there;
              alone = only_is entry.query.parts h.part h.only;
              in_it = found.1;
              at = (in_it.met).at;
            };
        clash = found.2;
      }

  some_found : (old new : List TraceEntry)
      → MeetsOld c number table one old ⊎ MeetsNew c number table one new
      → IsFound c (old ++ new) number table one
  some_found old new (inl any) =
      let found = any_there (MeetsEntry c number table one) old any in
      entry_found (old ++ new) found.0 (Contains-append_left old new found.0 found.1) found.2
  some_found old new (inr any) =
      let found = any_there (MeetsEntry c number table one) new any in
      entry_found (old ++ new) found.0 (Contains-append_right old new found.0 found.1) found.2

clash_of : (s : Schema) (c : Context) (old new : List TraceEntry) (number : ℕ) (table : Table)
    (one : Told) → slice_get s.tables number ≡ Some table → IsTold new number one
    → IsFound c (old ++ new) number table one → Clashes s c old new
clash_of s c old new number table one is_table one_told found =
    let key = any_there (All (IsShared c one found.other)) table.keys (found.clash).are_one in
    let differ = (found.clash).differ in
    record {
      number = number;
      table = table;
      is_table = is_table;
      one = one;
      other = found.other;
      one_told = one_told;
      other_told = found.other_told;
      key = key.0;
      is_key = key.1;
      shared = key.2;
      column = differ.column;
      is_column = differ.is_column;
      apart = differ.apart;
    }

met_clashes : (s : Schema) (c : Context) (old new : List TraceEntry) (entry : TraceEntry)
    → Contains new entry → IsMetEntry s c old new entry → Clashes s c old new
met_clashes s c old new entry there h =
    let place = (h.met).place in
    let at = (h.met).met in
    let found =
    any_there (λ row. IsMet c old new at.number at.table (told h.part row place)) entry.rows
    at.met in
    let one = told h.part found.0 place in
    clash_of s c old new at.number at.table one at.is_table
    (record {
      entry = entry;
      there = there;
      alone = only_is entry.query.parts h.part h.only;
      in_it = found.1;
      at = at.at;
    })
    (some_found c at.number at.table one old new (found.2).met)

-- ---- what clashes is found

module _ (c : Context) (number : ℕ) (table : Table) (one other : Told)
    (clash : Clash c table one other) where
  entry_meets : (entries : List TraceEntry) (is : IsTold entries number other)
      → MeetsEntry c number table one is.entry
  entry_meets entries is =
      record {
        part = other.part;
        only = ap only_of is.alone;
        met =
            record {
              place = other.place;
              is_place = slice_get_within other.part.from other.place number is.at;
              met =
                  record {
                    at = is.at;
                    met =
                        there_any (λ row. Clash c table one (told other.part row other.place))
                        is.entry.rows other.row is.in_it clash;
                  };
            };
      }

  some_meets : (old new : List TraceEntry) → IsTold (old ++ new) number other
      → MeetsOld c number table one old ⊎ MeetsNew c number table one new
  some_meets old new is =
      let meets = entry_meets (old ++ new) is in
      elim (Contains-append_cases old new is.entry is.there) [
        | inl before ↦ inl (there_any (MeetsEntry c number table one) old is.entry before meets)
        | inr now ↦ inr (there_any (MeetsEntry c number table one) new is.entry now meets)
      ]

knows : (c : Context) (table : Table) (one other : Told) (key : List ℕ) → Contains table.keys key
    → All (IsShared c one other) key → KnowsKey c table one
knows c table one other key there shared =
    there_any (All (IsFilled c one)) table.keys key there
    (All-weaker (IsShared c one other) (IsFilled c one)
    (λ column is. record { value = is.value; is = is.is_mine; some = is.some }) key shared)

clash_is_met : (s : Schema) (c : Context) (old new : List TraceEntry) (h : Clashes s c old new)
    → IsMetEntry s c old new h.one_told.entry
clash_is_met s c old new h =
    let clash : Clash c h.table h.one h.other = record {
      are_one = there_any (All (IsShared c h.one h.other)) h.table.keys h.key h.is_key h.shared;
      differ = record { column = h.column; is_column = h.is_column; apart = h.apart };
    } in
    let is = h.one_told in
    let met : IsMet c old new h.number h.table h.one = record {
      knows = knows c h.table h.one h.other h.key h.is_key h.shared;
      met = some_meets c h.number h.table h.one h.other clash old new h.other_told;
    } in
    record {
      part = h.one.part;
      only = ap only_of is.alone;
      met =
          record {
            place = h.one.place;
            is_place = slice_get_within h.one.part.from h.one.place h.number is.at;
            met =
                record {
                  number = h.number;
                  table = h.table;
                  at = is.at;
                  is_table = h.is_table;
                  met = there_any
                      (λ row. IsMet c old new h.number h.table (told h.one.part row h.one.place))
                      is.entry.rows h.one.row is.in_it met;
                };
          };
    }

-- a new row is met exactly where told rows clash
pub clashes_met : (s : Schema) (c : Context) (old new : List TraceEntry) (b : Bool)
    → (IsTrue b ↔ Any (IsMetEntry s c old new) new) → (IsTrue b ↔ Clashes s c old new)
clashes_met s c old new b tells = (
  λ h.
      let found = any_there (IsMetEntry s c old new) new (tells.0 h) in
      met_clashes s c old new found.0 found.1 found.2,
  λ h. tells.1
      (there_any (IsMetEntry s c old new) new h.one_told.entry h.one_told.there
      (clash_is_met s c old new h)),
)

-- ---- loops

none_more : (P : ℕ → Type 0) (n : ℕ) → NoneBelow P n → (P n → ⊥) → NoneBelow P (n + 1)
none_more P n none not k low h =
    elim (cases_lt k n) [
      | inl below ↦ none k below h
      | inr above ↦ let same : k ≡ n = omega (arith, low, above) in not (subst P same h)
    ]

-- of the elements of the list
none_of_list : {X : Type 0} (P : X → Type 0) (xs : List X) (n : ℕ) → NoneBelow (IsSoAt P xs) n
    → length xs ≤ n → Any P xs → ⊥
none_of_list P xs n none all any =
    let found = any_there P xs any in
    let at = there_at xs found.0 found.1 in
    let below : at.0 < length xs = slice_get_within xs at.0 found.0 at.1 in
    none at.0 (omega (arith, below, all)) (record { it = found.0; at = at.1; so = found.2 })

refuted : (b : Bool) → b ≡ false → IsTrue b → ⊥
refuted b wrong right = cc

not_found : (P : Type 0) → (P → ⊥) → (IsTrue false ↔ P)
not_found P none = (λ h. absurd (refuted false refl h), λ h. absurd (none h))

pub differ_none : (c : Context) (table : Table) (one other : Told) (n end : ℕ)
    → NoneBelow (IsApart c one other) n → end ≡ length table.columns → end ≤ n
    → (IsTrue false ↔ Differ c table one other)
differ_none c table one other n end none end_is all =
    not_found (Differ c table one other)
    (λ h. let low = h.is_column in none h.column (omega (arith, low, end_is, all)) h.apart)

module _ (c : Context) (number : ℕ) (table : Table) (one : Told) (old : List TraceEntry) where
  pub old_more : (n : ℕ) (it : TraceEntry) (b : Bool)
      → NoneBelow (IsSoAt (MeetsEntry c number table one) old) n → slice_get old n ≡ Some it
      → (IsTrue b ↔ MeetsEntry c number table one it) → b ≡ false
      → NoneBelow (IsSoAt (MeetsEntry c number table one) old) (n + 1)
  old_more n it b none at tells wrong =
      none_more (IsSoAt (MeetsEntry c number table one) old) n none
      (λ h. refuted b wrong
      (tells.1 (subst (MeetsEntry c number table one) (some_is h.it it (sym h.at ∙ at)) h.so)))

  pub old_none : (n end : ℕ) → NoneBelow (IsSoAt (MeetsEntry c number table one) old) n
      → end ≡ length old → end ≤ n → (IsTrue false ↔ MeetsOld c number table one old)
  old_none n end none end_is all =
      not_found (MeetsOld c number table one old)
      (none_of_list (MeetsEntry c number table one) old n none (omega (arith, end_is, all)))

module _ (s : Schema) (c : Context) (old new : List TraceEntry) (part : Part)
    (rows : List (List Value)) where
  pub met_more : (n : ℕ) (b : Bool) → NoneBelow (IsMetAt s c old new part rows) n
      → (IsTrue b ↔ IsMetAt s c old new part rows n) → b ≡ false
      → NoneBelow (IsMetAt s c old new part rows) (n + 1)
  met_more n b none tells wrong =
      none_more (IsMetAt s c old new part rows) n none (λ h. refuted b wrong (tells.1 h))

  pub met_none : (n end : ℕ) → NoneBelow (IsMetAt s c old new part rows) n → end ≡ length part.from
      → end ≤ n → (IsTrue false ↔ IsMetIn s c old new part rows)
  met_none n end none end_is all =
      not_found (IsMetIn s c old new part rows)
      (λ h. let low = h.is_place in none h.place (omega (arith, low, end_is, all)) h.met)
