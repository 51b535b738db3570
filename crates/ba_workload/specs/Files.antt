-- The files of a workload: their names and their bytes.
use Rattle.std.specs.Prelude.{◌≡◌, ℕ, List, [], ◌∷◌, ◌++◌, map, codes, Option, Some, None, if◌then◌else◌, string_bytes}
use Rattle.std.specs.Str.{bytes_eq}
use Rattle.ba_outside.specs.MemFiles.{held_in}
use Rattle.ba_outside.specs.declared.mem_files.Held.{Held}
use Rattle.ba_script_print.specs.Texts.{script_text}
use Rattle.ba_workload.specs.Script.{script}
use Rattle.ba_workload.specs.Standard.{params, policy_text, schema_text}
use Rattle.ba_workload.specs.Tables.{attendances_text, events_text, users_text}

-- a file's name and its bytes
abbrev pub File : Type 0
File = List ℕ × List ℕ

abbrev pub file_of : Held → File
file_of held = (string_bytes held.name, held.bytes.items)

-- the standard schema, policy and tables
abbrev pub standard_files : List File
standard_files =
    (codes "schema.sql", schema_text)
    ∷ (codes "policy.sql", policy_text)
    ∷ (codes "tables/Users.csv", users_text)
    ∷ (codes "tables/Events.csv", events_text)
    ∷ (codes "tables/Attendances.csv", attendances_text)
    ∷ []

-- the text of the script, for the policy's parameter and no cache keys
unfoldable pub workload_text : ℕ → ℕ → List ℕ
workload_text seed requests = script_text params [] (script seed requests)

-- and a script for them
abbrev pub files_of : ℕ → ℕ → List File
files_of seed requests = standard_files ++ (codes "script.jsonl", workload_text seed requests) ∷ []

-- the bytes of the first file of that name
abbrev pub bytes_in : List File → List ℕ → Option (List ℕ)
bytes_in [] name = None
bytes_in (file ∷ files) name = if bytes_eq file.0 name then Some file.1 else bytes_in files name

-- files in memory hold, name by name, what their names and bytes say
abbrev pub FilesHoldTheirBytes : Type 0
FilesHoldTheirBytes = (files : List Held) → held_in files ≡ bytes_in (map file_of files)
