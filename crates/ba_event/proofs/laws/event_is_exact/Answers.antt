use Rattle.ba_event.proofs.ExactLemmas.{event_json, event_said, json_none, none_json, none_shape, shape_none}
use Rattle.ba_event.proofs.laws.event_is_exact.Goals as goal

pub returns : goal.returns
returns c = record {
  event = λ bytes it. (λ e. event_json bytes it e, λ h. event_said bytes h.0 it h.1 h.2);
  json = λ bytes. (λ e. json_none bytes e, λ none. none_json bytes none);
  shape = λ bytes. (λ e. shape_none bytes e, λ h. none_shape bytes h.0 h.1 h.2);
}
