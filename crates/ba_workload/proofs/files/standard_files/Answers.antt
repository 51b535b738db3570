use Rattle.std.proofs.Common.{ap, map, string_bytes}
use Rattle.ba_workload.proofs.FileLemmas.{standard_put}
use Rattle.ba_workload.specs.Files.{file_of}
use Rattle.ba_workload.specs.Standard.{policy_text, schema_text}
use Rattle.ba_workload.proofs.files.standard_files.Goals as goal

pub returns : goal.returns
unfolding schema_text policy_text
returns c =
    standard_put (map file_of c.new-files.result.items) (map file_of c.add.new.files.items) (map file_of c.add-2.new.files.items) (map file_of c.add_table.new.files.items)
    (map file_of c.add_table-2.new.files.items) (map file_of c.add_table-3.new.files.items) (string_bytes c.in_ok-from_str.field-0) (string_bytes c.in_ok-from_str-2.field-0) c.args.set.now
    (ap (map file_of) c.new-files.ensures.items) c.in_ok-add.ensures c.in_ok-add-2.ensures c.in_ok-add_table.ensures c.in_ok-add_table-2.ensures c.in_ok-add_table-3.ensures
    c.in_ok-from_str.ensures.ok c.in_ok-from_str-2.ensures.ok c.requires
