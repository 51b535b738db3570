-- What is kept of a select's sources, so that a name needn't be looked for in each of them.
use Rattle.std.specs.Prelude.{◌≡◌, ℕ, Bool, true, false, nat_lt, List, [], ◌∷◌, Option, Some, None, option_map, count_by, Result, Err, if◌then◌else◌}
use Rattle.std.specs.BTreeMap.{BTreeMap, get_by}
use Rattle.std.specs.Cmp.Lexicographic.{slice_cmp}
use Rattle.std.specs.List.{list_any, position}
use Rattle.std.specs.Ordering.{nat_cmp}
use Rattle.std.specs.Str.{bytes_eq}
use denote.Ref.{Bor}
use Rattle.ba_sql_syntax.specs.declared.written.Source.{Source}
use Rattle.ba_sql_query.specs.Names.{called, numbered}
use Rattle.ba_sql_query.specs.declared.fault.ReadQueryFault.{ReadQueryFault}
use Rattle.ba_sql_query.specs.declared.fault.ReadQueryFault.TheVariants.{Ambiguous}
use Rattle.ba_sql_query.specs.declared.spot.Spot.{Spot}
use Rattle.ba_sql_query.specs.declared.tables.Kept.{Kept}

-- where p passes first, and whether it passes again
abbrev pub spot : {X : Type 0} → (X → Bool) → List X → Option Spot
spot p xs = option_map (λ n. record { first = n; again = nat_lt 1 (count_by p xs) }) (position p xs)

-- the spot once one more passes, at this place
abbrev pub seen : Option Spot → ℕ → Spot
seen None place = record { first = place; again = false }
seen (Some s) place = record { first = s.first; again = true }

-- the place of the only one that passes
abbrev pub only_at : ReadQueryFault → Option Spot → Result ℕ ReadQueryFault
only_at absent None = Err absent
only_at absent (Some s) = if s.again then Err Ambiguous else numbered absent (Some s.first)

-- ---- by what sources are called

-- each name has the spot of the sources that are called so
pub record Tells (spots : BTreeMap (Bor (List ℕ)) Spot) (sources : List Source) : Type 0 where
  pub of : (name : List ℕ) → get_by (λ k. slice_cmp nat_cmp name k.now) spots ≡ spot (λ source. bytes_eq (called source) name) sources

-- ---- by tables

-- where p passes first among the tables that are kept, and whether it passes again
abbrev pub spot_kept : (ℕ → Bool) → List Kept → Option Spot
spot_kept p [] = None
spot_kept p (k ∷ ks) = if p k.table then Some (record { first = k.place; again = list_any (λ k. p k.table) ks }) else spot_kept p ks

-- whatever is asked of tables has the same spot among those that are kept as among all
pub record Keeps (kept : List Kept) (from : List ℕ) : Type 0 where
  pub of : (p : ℕ → Bool) → spot_kept p kept ≡ spot p from
