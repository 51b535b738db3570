-- Files that are put one behind the other, and what they hold.
use Rattle.std.proofs.Common.{◌≡◌, ℕ, List, [], ◌∷◌, ◌++◌, map, cond, Some, refl, ap, codes, string_bytes}
use Rattle.std.proofs.Math.Path.{fun_ext}
use Rattle.std.specs.Str.{bytes_eq}
use Rattle.ba_model.specs.Meaning.{rows_of}
use Rattle.ba_model.specs.declared.value.RowSet.{RowSet}
use Rattle.ba_outside.specs.MemFiles.{held_in}
use Rattle.ba_outside.specs.declared.mem_files.Held.{Held}
use Rattle.ba_workload.specs.Files.{File, FilesHoldTheirBytes, bytes_in, file_of, standard_files}
use Rattle.ba_workload.specs.Standard.{policy_text, schema_text}
use Rattle.ba_workload.specs.Tables.{attendances_text, events_text, lines_of, tables, users_text}

pub standard_put : (none one two three four five : List File) (schema policy : List ℕ) (set : RowSet) → none ≡ []
    → one ≡ none ++ (codes "schema.sql", schema) ∷ []
    → two ≡ one ++ (codes "policy.sql", policy) ∷ []
    → three ≡ two ++ (codes "tables/Users.csv", codes "UId,Name" ++ (codes "\n" ++ lines_of (rows_of set 0))) ∷ []
    → four ≡ three ++ (codes "tables/Events.csv", codes "EId,Title,Duration" ++ (codes "\n" ++ lines_of (rows_of set 1))) ∷ []
    → five ≡ four ++ (codes "tables/Attendances.csv", codes "UId,EId,At" ++ (codes "\n" ++ lines_of (rows_of set 2))) ∷ []
    → schema ≡ schema_text → policy ≡ policy_text → set ≡ tables → five ≡ standard_files
unfolding users_text events_text attendances_text
standard_put none one two three four five schema policy set e0 e1 e2 e3 e4 e5 s p t =
    rw (e5, e4, e3, e2, e1, e0, s, p, t) refl

held_at : (files : List Held) (name : List ℕ) → held_in files name ≡ bytes_in (map file_of files) name
held_at [] name = refl
held_at (file ∷ files) name = ap (λ o. cond (bytes_eq (string_bytes file.name) name) (Some file.bytes.items) o) (held_at files name)

pub hold_theirs : FilesHoldTheirBytes
hold_theirs files = fun_ext (held_at files)
