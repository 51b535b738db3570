-- What is known of requests follows each line.
use Rattle.std.proofs.Common.{◌≡◌, ◌∙◌, refl, sym, ap, subst, ℕ, ◌+◌, ◌<◌, List, [], ◌∷◌, ◌++◌, length, Bool, true, false, cond, Option, Some, None, option_map, Result, Ok, Err, eqb}
use Rattle.std.proofs.lemmas.List.Elements.{All-append, All-nil}
use Rattle.std.proofs.lemmas.Option.{get_or_from_slice_get, slice_get_within}
use Rattle.std.specs.BTreeMap.{get}
use Rattle.std.specs.List.{All}
use Rattle.std.specs.Ordering.{nat_cmp}
use Rattle.std.specs.Prelude.{slice_get}
use Rattle.ba_comply.specs.declared.trace.TraceEntry.{TraceEntry}
use Rattle.ba_kernel.specs.Asked.{RecordFits}
use Rattle.ba_model.specs.Fit.{ContextFits, kinds_of}
use Rattle.ba_model.specs.declared.policy.Context.{Context}
use Rattle.ba_model.specs.declared.policy.Policy.{Policy}
use Rattle.ba_script.specs.Scripts.{BeginFits}
use Rattle.ba_script.specs.declared.entry.ScriptEntry.{ScriptEntry}
use Rattle.ba_script.specs.declared.entry.ScriptEntry.TheVariants as said
use Rattle.ba_printed.specs.declared.line.PrintedLine.{PrintedLine}
use Rattle.ba_tables.specs.TableSet.{TableSet}
use Rattle.ba_audit.specs.Audits.{IsSet}
use Rattle.ba_audit.specs.Keeping.{AskerFits, BegunFits, Counts, Moves, Tracks, known_in, told_at}
use Rattle.ba_audit.specs.Lines.{Basis, Line, Place, Reading, asking, begun_by, begun_over, begun_with, entry, is_memory, line_at, place_of, request_after, request_at, request_by, request_from, set_at, tables_of, told_by, with_told}
use Rattle.ba_audit.specs.Tests.{known_after}
use Rattle.ba_audit.specs.declared.request.Asker.{Asker}
use Rattle.ba_audit.specs.declared.request.Begun.{Begun}
use Rattle.ba_audit.specs.declared.request.Begun.TheVariants.{Silent, Asking}
use Rattle.ba_audit.specs.declared.told.Told.{Told}

pub request_from-push : (basis : Basis) (k : ℕ) (held : Option Begun) (ls : List Line) (l : Line) →
    request_from basis k held (ls ++ l ∷ []) ≡ request_at basis k (request_from basis k held ls) l.place l.reading
request_from-push basis k held [] l = refl
request_from-push basis k held (x ∷ ls) l = request_from-push basis k (request_at basis k held x.place x.reading) ls l

-- what is kept of a request is what is known of it
pub known_is : (basis : Basis) (before : List Line) (told : Told) → Tracks basis before told → (k : Option ℕ) → known_in told k ≡ known_after basis before k
known_is basis before told tracks None = refl
known_is basis before told tracks (Some k) = tracks.requests k

-- ---- what is known fits

-- what there is, is as P says
abbrev pub IfThere : {X : Type 0} → (X → Type 0) → Option X → Type 0
IfThere P None = Unit {0}
IfThere P (Some x) = P x

there_by : {X : Type 0} (P : X → Type 0) (xs : List X) → All P xs → (i : ℕ) (o : Option X) → slice_get xs i ≡ o → IfThere P o
there_by P xs all i None e = tt
there_by P xs all i (Some x) e = subst P (get_or_from_slice_get xs i x x e) (all i x (slice_get_within xs i x e))

set_fits : (policy : Policy) (sets : List TableSet) → All (IsSet policy) sets → (place : Option ℕ) → IfThere (IsSet policy) (set_at sets place)
set_fits policy sets all None = tt
set_fits policy sets all (Some place) = there_by (IsSet policy) sets all place (slice_get sets place) refl

begins_fit : (policy : Policy) (context : Context) (version : ℕ) → ContextFits (kinds_of policy.params) context → (o : Option TableSet) → IfThere (IsSet policy) o →
    BegunFits policy (option_map (asking context version) o)
begins_fit policy context version fits None there = tt
begins_fit policy context version fits (Some tables) there = record { context = fits; conform = there.conform; trace = All-nil (RecordFits policy) }

begun_fits : (basis : Basis) → All (IsSet basis.policy) basis.sets → (context : Context) → ContextFits (kinds_of basis.policy.params) context → (memory : Bool) (version : Option ℕ) →
    BegunFits basis.policy (begun_with basis context memory version)
begun_fits basis sets context fits true version = tt
begun_fits basis sets context fits false None = tt
begun_fits basis sets context fits false (Some version) =
    begins_fit basis.policy context version fits (tables_of basis version) (set_fits basis.policy basis.sets sets (place_of version basis.numbered))

begin_fits : (basis : Basis) → All (IsSet basis.policy) basis.sets → (context : Context) → ContextFits (kinds_of basis.policy.params) context → (reading : Reading) →
    BegunFits basis.policy (begun_by basis context reading)
begin_fits basis sets context fits (Ok line) = begun_fits basis sets context fits (is_memory line) (begun_over line)
begin_fits basis sets context fits (Err why) = tt

told_fits : (policy : Policy) (more : List TraceEntry) → All (RecordFits policy) more → (held : Option Begun) → BegunFits policy held → BegunFits policy (option_map (with_told more) held)
told_fits policy more all None fits = tt
told_fits policy more all (Some Silent) fits = tt
told_fits policy more all (Some (Asking asker)) fits =
    record { context = fits.context; conform = fits.conform; trace = All-append (RecordFits policy) asker.trace more fits.trace all }

either_fits : (policy : Policy) (b : Bool) (x y : Option Begun) → BegunFits policy x → BegunFits policy y → BegunFits policy (cond b x y)
either_fits policy true x y hx hy = hx
either_fits policy false x y hx hy = hy

pub request_fits : (basis : Basis) → All (IsSet basis.policy) basis.sets → (k : ℕ) (held : Option Begun) (e : ScriptEntry) (reading : Reading) → BeginFits basis.policy.params e →
    All (RecordFits basis.policy) (told_at basis.policy e reading) → BegunFits basis.policy held → BegunFits basis.policy (request_by basis k held e reading)
unfolding request_by told_at
request_fits basis sets k held (said.Begin request name context) reading begins told fits =
    either_fits basis.policy (eqb request k) (begun_by basis context reading) held (begin_fits basis sets context begins reading) fits
request_fits basis sets k held (said.Ask request name text) reading begins told fits =
    either_fits basis.policy (eqb request k) (option_map (with_told (told_by basis.policy text reading)) held) held (told_fits basis.policy (told_by basis.policy text reading) told held fits) fits
request_fits basis sets k held (said.Read request name key arguments questions) reading begins told fits = fits
request_fits basis sets k held (said.End request name) reading begins told fits = fits
request_fits basis sets k held (said.Publish number set) reading begins told fits = fits
