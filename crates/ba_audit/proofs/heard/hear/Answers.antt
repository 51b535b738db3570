use Rattle.std.proofs.Common.{◌∙◌, ap, sym}
use Rattle.std.specs.Option.{option_copied}
use Rattle.ba_audit.specs.Keeping.{basis_at, known_in}
use Rattle.ba_audit.specs.Tests.{is_kind, is_version, request_in}
use Rattle.ba_audit.proofs.TestLemmas.{first_kind, first_version}
use Rattle.ba_audit.proofs.heard.hear.Goals as goal

pub returns-then-not-is_kind-clause-heard : goal.returns-then-not-is_kind-clause-heard
returns-then-not-is_kind-clause-heard c =
    let e = c.args.entry.now in
    let line = c.args.line.now in
    let held = known_in c.args.told.now (request_in e) in
    first_kind (basis_at c.args.against.now) c.args.number c.args.told.now.used.items held e line
    (sym (ap (λ h. is_kind c.args.against.now.policy.now e c.args.number h line) c.known-held.ensures) ∙ sym c.is_kind.ensures ∙ c.if-not-is_kind.true)

pub returns-then-not-is_version-clause-heard : goal.returns-then-not-is_version-clause-heard
returns-then-not-is_version-clause-heard c =
    let e = c.args.entry.now in
    let line = c.args.line.now in
    let used = c.args.told.now.used.items in
    let basis = basis_at c.args.against.now in
    let held = known_in c.args.told.now (request_in e) in
    first_version basis c.args.number used held e line
    (sym (ap (λ h. is_kind c.args.against.now.policy.now e c.args.number h line) c.known-held.ensures) ∙ sym c.is_kind.ensures ∙ c.if-not-is_kind.false)
    (sym (ap (λ h. is_version basis used h e line) c.known-held.ensures) ∙ sym (ap (λ u. is_version basis u (option_copied c.known-held.result) e line) c.as_slice.ensures.value) ∙ sym c.is_version.ensures ∙ c.if-not-is_version.true)
