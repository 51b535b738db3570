use Rattle.std.proofs.Common.{◌≡◌, ◌↔◌, ℕ, length, refl}
use Rattle.std.proofs.lemmas.Option.{none-some, slice_get_within}
use Rattle.std.proofs.lemmas.Result.{IfOk-weaker}
use Rattle.std.specs.List.{Contains}
use Rattle.ba_facts.specs.Known.{Known, seen}
use Rattle.ba_facts.specs.Members.{AreMembers, AreMembersBelow}
use Rattle.ba_facts.specs.Webs.{IsWeb}
use Rattle.ba_facts.specs.declared.term.Term.TheVariants.{Unknown}
use Rattle.ba_facts.proofs.MemberLemmas.{members_alone, members_numbered}
use Rattle.ba_facts.proofs.web.Web.members.Goals as goal

pub members_of-requires-clause-numbered : goal.members_of-requires-clause-numbered
members_of-requires-clause-numbered c = slice_get_within _ _ _ ((c.in-Some.ensures c.in-Some.x).0 refl)

pub returns-in-Some : goal.returns-in-Some
returns-in-Some c = IfOk-weaker c.members_of.result (λ it. AreMembersBelow c.args.self.now.names c.args.self.now.classes.merges c.in-Some.x (length c.args.self.now.names) it.items) (λ it. (k : Known) → IsWeb k c.args.self.now → AreMembers k (seen c.args.a) it.items)
    (λ it h. λ k w. members_numbered w.terms_are c.in-Some.x (seen c.args.a) it.items ((c.in-Some.ensures c.in-Some.x).0 refl) h) c.members_of.ensures

pub returns-in-None : goal.returns-in-None
returns-in-None c = IfOk-weaker c.own_members.result (λ it. (u : ℕ) → Contains it.items u ↔ (seen c.args.a ≡ Unknown u)) (λ it. (k : Known) → IsWeb k c.args.self.now → AreMembers k (seen c.args.a) it.items)
    (λ it h. λ k w. members_alone w.terms_are (seen c.args.a) it.items (λ n t. none-some n ((c.in-None.ensures n).1 t)) h) c.own_members.ensures
