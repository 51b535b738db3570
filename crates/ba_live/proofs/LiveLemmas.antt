-- A decision service is as it should be before the next line.
use Rattle.std.proofs.Common.{◌≡◌, ℕ, ◌+◌, ◌<◌, ◌≤◌, List, Option, Some, None, refl, sym, subst, arith}
use Rattle.ba_comply.specs.declared.trace.TraceEntry.{TraceEntry}
use Rattle.std.specs.List.{All}
use Rattle.std.proofs.lemmas.List.Elements.{All-append, All-take}
use Rattle.ba_judge.specs.Shelves.{Learns}
use Rattle.ba_judge.specs.Shelves.Learns.{nothing}
use Rattle.ba_judge.specs.declared.shelves.Shelves.{Shelves}
use Rattle.ba_kernel.specs.Asked.{RecordFits}
use Rattle.ba_model.specs.declared.policy.Context.{Context}
use Rattle.ba_model.specs.declared.query.Query.{Query}
use Rattle.ba_live.proofs.SoundLemmas.{Closes, Notes, Records, Starts, before_closes, before_leaves, before_more, before_notes, before_records, closes_sound, leaves_sound, notes_sound, records_sound, starts_sound, updates_sound}
use Rattle.ba_live.specs.Askers.{asked_more, closed_now, with_front}
use Rattle.ba_live.specs.Books.{LeavesAll, LeavesAsked, LeavesOpen, Opens, asked_at, many_open, open_at}
use Rattle.ba_live.specs.Limits.{most_open_asks}
use Rattle.ba_live.specs.Steps.{Stays}
use Rattle.ba_live.specs.Wellformed.{IsLive}
use Rattle.ba_live.specs.declared.live.Live.{Live}
use Rattle.ba_live.specs.declared.open.Asked.{Asked}
use Rattle.ba_live.specs.declared.open.Open.{Open}

pub live_more : (next : ℕ) (it : Live) → IsLive next it → IsLive (next + 1) it
live_more next it live = record { sound = live.sound; earlier = before_more next it live.earlier }

pub stays_live : (next : ℕ) (old new : Live) → IsLive next old → Stays old new → LeavesAll old new → many_open new.requests ≤ many_open old.requests → IsLive next new
stays_live next old new live stays leaves many =
    record { sound = leaves_sound old new live.sound stays leaves many; earlier = before_leaves next old new leaves.questions live.earlier }

pub leaves_live : (next : ℕ) (old new : Live) → IsLive next old → Stays old new → LeavesAll old new → many_open new.requests ≡ many_open old.requests → IsLive next new
leaves_live next old new live stays leaves many = stays_live next old new live stays leaves (omega (arith, many))

pub counts_live : (next count : ℕ) (name : List ℕ) (asker : Open) (old new : Live) → IsLive next old → Stays old new → open_at old name ≡ Some asker → asker.asks + count ≤ most_open_asks
    → Opens name (Some (asked_more count asker)) old.requests new.requests → LeavesAsked old.questions new.questions → many_open new.requests ≡ many_open old.requests → IsLive next new
counts_live next count name asker old new live stays is few opens asked many =
    let fits = live.sound.askers name asker is in
    record {
      sound = updates_sound name asker (asked_more count asker) old new live.sound stays
          (record { was_open = is; opens = opens; asked = asked; lines = refl; fits = record { context = fits.context; trace = fits.trace; few = few } })
          many;
      earlier = before_leaves next old new asked live.earlier;
    }

-- the request can only end
pub shuts_live : (next : ℕ) (name : List ℕ) (asker : Open) (old new : Live) → IsLive next old → Stays old new → open_at old name ≡ Some asker
    → Opens name (Some (closed_now asker)) old.requests new.requests → LeavesAsked old.questions new.questions → many_open new.requests ≡ many_open old.requests → IsLive next new
shuts_live next name asker old new live stays is opens asked many =
    let fits = live.sound.askers name asker is in
    record {
      sound = updates_sound name asker (closed_now asker) old new live.sound stays
          (record { was_open = is; opens = opens; asked = asked; lines = refl; fits = record { context = fits.context; trace = fits.trace; few = fits.few } })
          many;
      earlier = before_leaves next old new asked live.earlier;
    }

-- so many of the entries joined the trace
pub part_live : (next count : ℕ) (name : List ℕ) (entries : List TraceEntry) (asker : Open) (old new : Live) → IsLive next old → Stays old new → open_at old name ≡ Some asker → All (RecordFits old.policy) entries
    → Opens name (Some (with_front count entries asker)) old.requests new.requests → LeavesAsked old.questions new.questions → many_open new.requests ≡ many_open old.requests → IsLive next new
part_live next count name entries asker old new live stays is fit opens asked many =
    let fits = live.sound.askers name asker is in
    record {
      sound = updates_sound name asker (with_front count entries asker) old new live.sound stays
          (record {
            was_open = is;
            opens = opens;
            asked = asked;
            lines = refl;
            fits = record { context = fits.context; trace = All-append (RecordFits old.policy) asker.trace _ fits.trace (All-take (RecordFits old.policy) count entries fit); few = fits.few };
          })
          many;
      earlier = before_leaves next old new asked live.earlier;
    }

pub starts_live : (next : ℕ) (name : List ℕ) (context : Context) (old new : Live) → IsLive next old → Stays old new → Starts name context old new → IsLive next new
starts_live next name context old new live stays starts =
    record { sound = starts_sound name context old new live.sound stays starts; earlier = before_leaves next old new starts.asked live.earlier }

pub notes_live : (line : ℕ) (name : List ℕ) (query : Query) (asker : Open) (old new : Live) → IsLive line old → Stays old new → Notes line name query asker old new → many_open new.requests ≡ many_open old.requests → IsLive (line + 1) new
notes_live line name query asker old new live stays notes many =
    record { sound = notes_sound line name query asker old new live.sound stays notes many; earlier = before_notes line _ old new notes.expects live.earlier }

pub records_live : (next told : ℕ) (question : Asked) (asker : Open) (entries : List TraceEntry) (old new : Live) → IsLive next old → Stays old new → Records told question asker entries old new
    → many_open new.requests ≡ many_open old.requests → IsLive next new
records_live next told question asker entries old new live stays records many =
    record { sound = records_sound told question asker entries old new live.sound stays records many; earlier = before_records next told old new records.expects live.earlier }

pub closes_live : (next : ℕ) (name : List ℕ) (asker : Open) (old new : Live) → IsLive next old → Stays old new → Closes name asker old new → many_open new.requests ≤ many_open old.requests → IsLive next new
closes_live next name asker old new live stays closes many =
    record { sound = closes_sound name asker old new live.sound stays closes many; earlier = before_closes next name old new closes.forgets live.earlier }

-- no question of the next line may be told
pub fresh_line : (line : ℕ) (it : Live) → IsLive line it → asked_at it line ≡ None
fresh_line line it live = by (asked_at it line) refl
  where
    by : (o : Option Asked) → asked_at it line ≡ o → asked_at it line ≡ None
    by None e = e
    by (Some question) e = let below : line < line = live.earlier.each line question e in absurd (omega (arith, below))

pub leaves_asked : (it : Live) → LeavesAsked it.questions it.questions
leaves_asked it = record { each = λ line. refl }

pub leaves_open : (it : Live) → LeavesOpen it.requests it.requests
leaves_open it = record { each = λ name. refl }

pub same_shelves : (it : Shelves) → Learns it it
same_shelves it = nothing (record { each = λ k. refl })

pub kept_shelves : (old new : Shelves) → new ≡ old → Learns old new
kept_shelves old new same = subst (Learns old) (sym same) (same_shelves old)
