use Rattle.std.proofs.Common.{◌∙◌, sym}
use Rattle.ba_script.proofs.FormLemmas.{line_is, line_not, spelled}
use Rattle.ba_script.proofs.SaysLemmas.{read_shape, shape_is}
use Rattle.ba_script.proofs.ScriptLemmas.{json_of_line, line_of_json, no_line_of_no_json}
use Rattle.ba_script.proofs.laws.script_line_is_exact.Goals as goal

pub returns : goal.returns
returns c = record {
  line = λ bytes it. (
    λ e. (let found = json_of_line bytes it e in (found.0, found.1, line_is found.0 it found.2)),
    λ h. line_of_json bytes h.0 h.1.utf8 h.1.reads ∙ spelled h.0 it h.2,
  );
  json = λ bytes. (
    λ e d h. line_not d (sym (line_of_json bytes d h.utf8 h.reads) ∙ e),
    λ none. no_line_of_no_json bytes none,
  );
  shape = λ bytes. (λ e. shape_is bytes e, λ h. read_shape bytes h.0 h.1 h.2);
}
