-- The query that a text means, or the first fault.
use Rattle.std.specs.Prelude.{ℕ, Bool, false, not, ◌&&◌, List, [], ◌∷◌, Option, Some, None, Result, Ok, Err, if◌then◌else◌}
use Rattle.std.specs.List.{list_all}
use Rattle.ba_model.specs.Fit.{kind_of, kinds_of}
use Rattle.ba_model.specs.QueryFaults as faults
use Rattle.ba_model.specs.Readings.{◌>>=◌}
use Rattle.ba_model.specs.declared.policy.Parameter.{Parameter}
use Rattle.ba_model.specs.declared.query.Atom.{Atom}
use Rattle.ba_model.specs.declared.query.Operand.{Operand}
use Rattle.ba_model.specs.declared.query.Part.{Part}
use Rattle.ba_model.specs.declared.query.Query.{Query}
use Rattle.ba_model.specs.declared.schema.Kind.{Kind}
use Rattle.ba_model.specs.declared.schema.Schema.{Schema}
use Rattle.ba_sql_syntax.specs.declared.written.QueryText.{QueryText}
use Rattle.ba_sql_query.specs.Parts.{parts_of, written_part}
use Rattle.ba_sql_query.specs.Resolve.{names_of}
use Rattle.ba_sql_query.specs.declared.fault.ReadQueryFault.{ReadQueryFault}
use Rattle.ba_sql_query.specs.declared.fault.ReadQueryFault.TheVariants.{KindDiffers, OrderOnText, HeadDiffers, TooMany}
use Rattle.ba_sql_query.specs.declared.resolved.ResolvedSelect.{ResolvedSelect}

-- the sides of an atom have one kind
abbrev pub atom_kinds : Schema → List Parameter → List ℕ → Atom → Bool
atom_kinds schema params from atom = faults.atom_kinds schema (kinds_of params) [] from atom.op atom.left atom.right

-- the sides of each test have one kind
abbrev pub kinds_agree : Schema → List Parameter → List ResolvedSelect → Bool
kinds_agree schema params selects = list_all (λ select. faults.kinds_agree schema (kinds_of params) [] (written_part select)) selects

-- `<` and `<=` have no text
abbrev pub orders_numbers : Schema → List Parameter → List ResolvedSelect → Bool
orders_numbers schema params selects = list_all (λ select. faults.orders_numbers schema (kinds_of params) [] (written_part select)) selects

-- ---- heads

abbrev pub kind_in : Schema → List Parameter → ResolvedSelect → Operand → Option Kind
kind_in schema params select x = kind_of schema (kinds_of params) [] select.from x

-- the first head isn't empty, and the others have as many operands, of the same kinds
abbrev pub heads_agree : Schema → List Parameter → List ResolvedSelect → Bool
heads_agree schema params [] = false
heads_agree schema params (s ∷ ss) = not (faults.is_empty s.head) && list_all (λ t. faults.parts_match schema (kinds_of params) [] (written_part s) (written_part t)) ss

-- ---- the query

abbrev pub query_of_parts : List Part → Query
query_of_parts parts = record { parts = parts }

-- the first fault beside those of names
unfoldable pub fault_of : Schema → List Parameter → List ResolvedSelect → Option ReadQueryFault
fault_of schema params selects =
    if not (kinds_agree schema params selects) then Some KindDiffers
    else if not (orders_numbers schema params selects) then Some OrderOnText
    else if not (heads_agree schema params selects && not (faults.is_empty (parts_of selects))) then Some HeadDiffers
    else if not (faults.within (parts_of selects)) then Some TooMany
    else None

abbrev pub unless : Option ReadQueryFault → Query → Result Query ReadQueryFault
unless None q = Ok q
unless (Some f) q = Err f

abbrev pub query_of_selects : Schema → List Parameter → List ResolvedSelect → Result Query ReadQueryFault
query_of_selects schema params selects = unless (fault_of schema params selects) (query_of_parts (parts_of selects))

unfoldable pub query_of_written : Schema → List Parameter → QueryText → Result Query ReadQueryFault
query_of_written schema params text = names_of schema params text >>= query_of_selects schema params
