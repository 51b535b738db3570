use Rattle.std.proofs.Common.{◌≡◌, ◌∙◌, ℕ, ◌<◌, ◌+◌, ◌++◌, ◌∷◌, [], length, take, drop, suc, All, Contains, List, ap, set, sym, subst, arith}
use Rattle.std.proofs.lemmas.List.{length-set, take-set}
use Rattle.ba_facts.specs.Walks.{every, listed}
use Rattle.ba_facts.proofs.WalkLemmas.{chosen_more, fronts_same, one_more, parted, tried_more, tried_on, visited_on}
use Rattle.ba_facts.proofs.walk.Walk.+go_on.Goals as goal
use Rattle.ba_facts.proofs.walk.Walk.+go_on.Goals.{then-is_fact+in_ok-takes+then-branch+in_ok-go_on, then-is_fact+in_ok-takes+else-branch, else-is_fact}

pub loop-i-preserved : goal.loop-i-preserved
loop-i-preserved g t c =
    let offered = listed c.offered-offered.result in
    let visitor = c.args.visitor.now in
    let walk = c.args.self.now in
    let table = c.in-Some.table.now in
    let rest = c.in-Some.rest.now in
    let front = take c.args.place c.args.chosen.now in
    let firsts = take c.loop-i.i offered in
    let number = c.get-number.result in
    let visited = λ (from firsts : List ℕ). g.V.Visit.visited visitor walk from front firsts in
    let split : c.args.from.now ≡ table ∷ rest = c.in-Some.ensures.cases.0 in
    let below : c.loop-i.i < length offered = (let more = c.loop-i-test.true in let end = c.len-i-end.ensures in omega (arith, more, end)) in
    let more = take (c.loop-i.i + 1) offered in
    let room : c.args.place < length c.loop-i.chosen =
    (let all = c.requires.places in
    let some : length c.args.from.now ≡ suc (length rest) = ap length split in
    let same = c.loop-i.invariant.places in
    omega (arith, all, some, same)) in
    let grows : more ≡ firsts ++ number ∷ [] = one_more offered c.loop-i.i number c.get-number.ensures below in
    let before = subst (λ xs. visited xs firsts c.args.state.now c.loop-i.state) split c.loop-i.invariant.visited in
    elim c.if-is_fact.branch [
      | then-is_fact+in_ok-takes+then-branch+in_ok-go_on w ↦
          let deeper = chosen_more front c.loop-i.chosen c.args.place number room c.loop-i.invariant.chosen in
          record {
            places = ap length w.chosen-is ∙ (w.in_ok-go_on.ensures.places ∙ (length-set c.loop-i.chosen c.args.place number ∙ c.loop-i.invariant.places));
            chosen = ap (take c.args.place) w.chosen-is ∙ (fronts_same w.go_on.new.chosen (set c.loop-i.chosen c.args.place number) c.args.place w.in_ok-go_on.ensures.chosen ∙ (take-set c.loop-i.chosen c.args.place number ∙ c.loop-i.invariant.chosen));
            tried = subst (λ xs. All (Contains more) (g.V.Visit.numbers xs)) (sym w.tried-is) (tried_more (g.V.Visit.numbers c.loop-i.tried) (g.V.Visit.numbers w.takes.new.tried) firsts more number grows w.in_ok-takes.ensures.tried c.loop-i.invariant.tried);
            visited = subst (λ s. visited c.args.from.now more c.args.state.now s) (sym w.state-is)
                (visited_on visited c.args.from.now (table ∷ rest) firsts more number c.args.state.now w.go_on.new.state split grows
                (c.requires.composes.more table rest front firsts number c.args.state.now c.loop-i.state w.go_on.new.state (c.is_fact.ensures.0 w.if-is_fact.true) before
                (subst (λ xs. g.V.Visit.visited visitor walk rest xs (every walk.branch.now) c.loop-i.state w.go_on.new.state) deeper w.in_ok-go_on.ensures.visited)));
          }
      | then-is_fact+in_ok-takes+else-branch w ↦
          let deeper = chosen_more front c.loop-i.chosen c.args.place number room c.loop-i.invariant.chosen in
          record {
            places = ap length w.chosen-is ∙ (length-set c.loop-i.chosen c.args.place number ∙ c.loop-i.invariant.places);
            chosen = ap (take c.args.place) w.chosen-is ∙ (take-set c.loop-i.chosen c.args.place number ∙ c.loop-i.invariant.chosen);
            tried = subst (λ xs. All (Contains more) (g.V.Visit.numbers xs)) (sym w.tried-is) (tried_more (g.V.Visit.numbers c.loop-i.tried) (g.V.Visit.numbers w.takes.new.tried) firsts more number grows w.in_ok-takes.ensures.tried c.loop-i.invariant.tried);
            visited = subst (λ s. visited c.args.from.now more c.args.state.now s) (sym w.state-is)
                (subst (λ xs. visited c.args.from.now xs c.args.state.now c.loop-i.state) (sym grows)
                (w.in_ok-takes.ensures.spared (λ h. let t = w.if-branch.false in cc) front firsts (drop (suc c.loop-i.i) offered) c.args.state.now deeper
                (subst (λ xs. g.V.Visit.offers visitor walk c.args.from.now front xs) (parted offered c.loop-i.i number c.get-number.ensures below) c.offered-offered.ensures)
                c.loop-i.invariant.tried c.loop-i.invariant.visited));
          }
      | else-is_fact w ↦ record {
        places = ap length w.chosen-is ∙ c.loop-i.invariant.places;
        chosen = ap (take c.args.place) w.chosen-is ∙ c.loop-i.invariant.chosen;
        tried = subst (λ xs. All (Contains more) (g.V.Visit.numbers xs)) (sym w.tried-is) (tried_on (g.V.Visit.numbers c.loop-i.tried) firsts more number grows c.loop-i.invariant.tried);
        visited = subst (λ s. visited c.args.from.now more c.args.state.now s) (sym w.state-is)
            (visited_on visited c.args.from.now (table ∷ rest) firsts more number c.args.state.now c.loop-i.state split grows
            (c.requires.composes.other table rest front firsts number c.args.state.now c.loop-i.state (λ h. let t = c.is_fact.ensures.1 h in cc) before));
      }
    ]
