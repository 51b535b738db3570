use Rattle.std.proofs.Common.{◌∙◌, ap, ap₂, subst, sym, rules}
use Rattle.std.specs.List.{AllByRecursion, fold, zip}
use Rattle.std.specs.Option.{option_copied}
use Rattle.std.proofs.lemmas.List.{take_all}
use Rattle.std.proofs.lemmas.List.Elements.{All-from_recursion}
use Rattle.serde_json.specs.Data.{no_members, object, put}
use Rattle.serde_json.specs.View.{members_view}
use Rattle.serde_json.proofs.Views.{view-Object}
use Rattle.ba_script_print.proofs.WriteLemmas.{bits_more, members_more, without}
use Rattle.ba_script_print.specs.ReadBack.{ValueHasBits}
use Rattle.ba_script_print.specs.Texts.{with_value}
use Rattle.ba_script_print.proofs.entry.context_json.Goals as goal
use Rattle.ba_script_print.proofs.entry.context_json.Goals.{in-Some+in_ok-value+in_ok-put, in_default}

pub loop-i-preserved : goal.loop-i-preserved
loop-i-preserved c =
    let params = c.args.params.now in
    let vs = c.args.context.now.values in
    let i = c.loop-i.i in
    let p = c.index-params-i.result in
    elim c.match-find.branch [
      | in-Some+in_ok-value+in_ok-put w ↦
          (let v = w.in-Some.value.now in
          let there = sym c.find.ensures ∙ ap option_copied w.in-Some.is in
          record {
            members = rw (w.members-is)
                (members_more params vs i p c.loop-i-test.true c.index-params-i.is v (members_view c.loop-i.members.entries) (members_view w.put.new.map.entries) there c.loop-i.invariant.members
                (w.in_ok-put.ensures.ok ∙ ap₂ (λ k d. put k d (members_view c.loop-i.members.entries)) w.as_str.ensures w.in_ok-value.ensures.json));
            bits = bits_more params vs i p c.loop-i-test.true c.index-params-i.is v there c.loop-i.invariant.bits w.in_ok-value.ensures.bits;
          })
      | in_default w ↦
          (let none = sym c.find.ensures ∙ ap option_copied w.in_default.is in
          let same = without params vs i p c.loop-i-test.true c.index-params-i.is none in
          record {
            members = rw (w.members-is) (c.loop-i.invariant.members ∙ ap (fold with_value no_members) (sym same));
            bits = subst (AllByRecursion (λ given. ValueHasBits given.1)) (sym same) c.loop-i.invariant.bits;
          })
    ]

pub returns-clause-json : goal.returns-clause-json
returns-clause-json c =
    let all = take_all c.loop-i.i c.args.params.now (search rules) in
    view-Object c.loop-i.members ∙ ap object (c.loop-i.invariant.members ∙ ap (λ ps. fold with_value no_members (zip ps c.args.context.now.values)) all)

pub returns-clause-bits : goal.returns-clause-bits
returns-clause-bits c =
    let all = take_all c.loop-i.i c.args.params.now (search rules) in
    All-from_recursion (λ given. ValueHasBits given.1) (zip c.args.params.now c.args.context.now.values)
    (subst (λ ps. AllByRecursion (λ given. ValueHasBits given.1) (zip ps c.args.context.now.values)) all c.loop-i.invariant.bits)
