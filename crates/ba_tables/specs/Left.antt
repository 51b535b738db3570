-- The records that a reader of CSV has left.
use Rattle.std.specs.Prelude.{◌≡◌, ◌+◌, ℕ, false, List, [], Option, Some, None, IsSome, length}
use Rattle.std.specs.Borrow.{Bor}
use Rattle.csv.specs.Machine.{ends_at_end}
use Rattle.csv.specs.Reading.{Ready, default_config, reader_config, reader_state, reader_trim, records_from, source_of}
use Rattle.csv.specs.declared.parser.State.{State}
use Rattle.csv.specs.declared.reader.Reader.{Reader}
use Rattle.csv.specs.declared.reader.Trim.TheVariants as trim

-- a reader of bytes in memory
abbrev pub BytesReader : Type 0
BytesReader = Reader (Bor (List ℕ))

-- the bytes that it has left
abbrev pub bytes_left : BytesReader → Option (List ℕ)
bytes_left reader = source_of (λ slice. Some slice.now) reader

abbrev pub records_at : State → Option (List ℕ) → List (List (List ℕ))
records_at state None = []
records_at state (Some bytes) = records_from default_config (length bytes + 1) state bytes

-- the records that it has left
abbrev pub records_left : BytesReader → List (List (List ℕ))
records_left reader = records_at (reader_state reader) (bytes_left reader)

-- it reads with the defaults, gives its next record as it stands, and stands between two records of known bytes
pub record IsReading (reader : BytesReader) : Type 0 where
  pub config : reader_config reader ≡ default_config
  pub trims : reader_trim reader ≡ trim.None
  pub ready : Ready reader
  pub known : IsSome (bytes_left reader)
  pub between : ends_at_end (reader_state reader) ≡ false
