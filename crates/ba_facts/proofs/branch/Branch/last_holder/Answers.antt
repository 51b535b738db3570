use Rattle.std.proofs.Common.{◌≡◌, ◌↔◌, IsTrue, ◌+◌, ◌-◌, ◌∙◌, sym, subst, arith, length}
use Rattle.std.proofs.lemmas.Bool.{false≢true}
use Rattle.ba_facts.proofs.LaidLemmas.{HaveNone, here_or_none, no_holder, none_more, none_past}
use Rattle.std.specs.List.{Any}
use Rattle.ba_facts.specs.Laid.{BeginsBy, IsHolder}
use Rattle.ba_facts.specs.declared.term.Fact.{Fact}
use Rattle.ba_facts.specs.declared.term.Term.TheVariants.{Unknown}
use Rattle.ba_facts.proofs.branch.Branch.last_holder.Goals as goal

pub loop-number-init : goal.loop-number-init
loop-number-init c = (let all = c.len-number.ensures in omega (arith, all), none_past c.args.self.now.facts c.args.unknown c.len-number.result c.len-number.ensures)

pub get-fact-requires : goal.get-fact-requires
get-fact-requires c =
    let most = c.loop-number.invariant.0 in
    let some = c.loop-number-test.true in
    omega (arith, most, some)

pub returns-then-begins_by : goal.returns-then-begins_by
returns-then-begins_by c =
    let some = c.loop-number-test.true in
    let next : c.loop-number.number ≡ c.loop-number.number - 1 + 1 = omega (arith, some) in
    let begins = subst (λ fact. BeginsBy fact c.args.unknown) c.deref.ensures (c.begins_by.ensures.0 c.if-begins_by.true) in
    let has = subst (λ (fact : Fact). IsTrue c.has_unknown.result ↔ Any (λ term. term ≡ Unknown c.args.unknown) fact.terms) c.deref-then-begins_by.ensures c.has_unknown.ensures in
    subst (IsHolder c.args.self.now.facts c.args.unknown) (sym c.then_some.ensures)
    (here_or_none c.args.self.now.facts (length c.args.self.now.known.unknowns) c.args.unknown c.requires (c.loop-number.number - 1) c.get-fact.result.now c.has_unknown.result c.get-fact.ensures begins
    (subst (HaveNone c.args.self.now.facts c.args.unknown) next c.loop-number.invariant.1) has)

pub loop-number-preserved : goal.loop-number-preserved
loop-number-preserved c =
    let most = c.loop-number.invariant.0 in
    let some = c.loop-number-test.true in
    let next : c.loop-number.number ≡ c.loop-number.number - 1 + 1 = omega (arith, some) in (
      omega (arith, most),
      none_more c.args.self.now.facts (length c.args.self.now.known.unknowns) c.args.unknown c.requires (c.loop-number.number - 1) c.get-fact.result.now c.get-fact.ensures
          (λ h. false≢true (sym c.if-begins_by.false ∙ c.begins_by.ensures.1 (subst (λ fact. BeginsBy fact c.args.unknown) (sym c.deref.ensures) h)))
          (subst (HaveNone c.args.self.now.facts c.args.unknown) next c.loop-number.invariant.1),
    )

pub returns : goal.returns
returns c =
    let done = c.loop-number-test.false in
    let zero : c.loop-number.number ≡ 0 = omega (arith, done) in
    no_holder c.args.self.now.facts (length c.args.self.now.known.unknowns) c.args.unknown c.requires (subst (HaveNone c.args.self.now.facts c.args.unknown) zero c.loop-number.invariant.1)
