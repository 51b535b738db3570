-- What files in memory hold, and which of their calls fail.
use Rattle.std.specs.Prelude.{◌≡◌, ◌⊎◌, ℕ, List, [], ◌∷◌, Contains, Some, None, Result, Ok, Err, ⊤, if◌then◌else◌, string_bytes, unwrap_or}
use Rattle.std.specs.Str.{bytes_eq}
use Rattle.ba_outside.specs.Seen.{Contents, FilesSeen}
use Rattle.ba_outside.specs.declared.files.ReadFail.{ReadFail}
use Rattle.ba_outside.specs.declared.files.ReadFail.TheVariants.{NoMemory, Fault, TooLong}
use Rattle.ba_outside.specs.declared.mem_files.Held.{Held}

-- the bytes of the first file of that name
abbrev pub held_in : List Held → Contents
held_in [] name = None
held_in (file ∷ files) name =
    if bytes_eq (string_bytes file.name) name then Some file.bytes.items else held_in files name

-- the same, where a name that isn't held reads as empty
abbrev pub held_or_empty : List Held → Contents
held_or_empty files name = Some (unwrap_or (held_in files name) [])

-- files in memory: the files, the numbers of the calls that fail, how many calls came, and what the
-- calls left
pub record MemFilesSeen : Type 0 where
  pub files : List Held
  pub failing : List ℕ
  pub calls : ℕ
  pub asked : List (List ℕ)
  pub taken : ℕ
  pub faults : ℕ

-- what is seen of any files
abbrev pub shown : MemFilesSeen → FilesSeen
shown m = record {
  held = Some (held_in m.files);
  asked = m.asked;
  taken = m.taken;
  faults = m.faults;
}

-- the next call's number is listed, or there is no file of the name
abbrev pub NextFails : MemFilesSeen → List ℕ → Type 0
NextFails m name = Contains m.failing m.calls ⊎ (held_in m.files name ≡ None)

-- a fault is answered exactly there; want of memory may stand in place of any answer
abbrev pub FaultsWhere : {X : Type 0} → Type 0 → Result X ReadFail → Type 0
FaultsWhere there (Ok x) = ¬ there
FaultsWhere there (Err Fault) = there
FaultsWhere there (Err (TooLong n)) = ¬ there
FaultsWhere there (Err NoMemory) = ⊤
