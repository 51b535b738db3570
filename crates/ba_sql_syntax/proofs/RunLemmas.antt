-- One step after the other, as the loops take them.
use Rattle.std.proofs.Common.{◌≡◌, ℕ, suc, ◌+◌, ◌-◌, ◌<◌, ◌≤◌, Bool, true, false, List, length, Result, Ok, refl, sym, arith}
use Rattle.ba_model.specs.Readings.{◌>>=◌, Fails}
use Rattle.ba_model.specs.declared.failure.Failure.{Failure}
use Rattle.ba_model.specs.declared.failure.Failure.TheVariants.{NoMemory, Fault}
use Rattle.ba_grammar.specs.declared.error.Syntax.{Syntax}
use Rattle.ba_sql_syntax.specs.Reader.{run}
use Rattle.ba_sql_syntax.specs.Terminals.{Terminal}

-- where a loop over the words is: what the steps that are left give
pub record At {S : Type 0} (goes : S → Bool) (step : S → Result S Syntax) (words : List Terminal) (i : ℕ) (here : S) (total : Result S Syntax) : Type 0 where
  pub so_far : run goes step (length words - i) here ≡ total

split : (words : List Terminal) (i : ℕ) → i < length words → length words - i ≡ suc (length words - (i + 1))
split words i lt = omega arith

pub begun : {S : Type 0} (goes : S → Bool) (step : S → Result S Syntax) (words : List Terminal) (here : S) (total : Result S Syntax)
    → run goes step (length words) here ≡ total → At goes step words 0 here total
begun goes step words here total e =
    let fuel : length words - 0 ≡ length words = omega arith in
    record { so_far = rw fuel e }

pub stops : {S : Type 0} (goes : S → Bool) (step : S → Result S Syntax) (words : List Terminal) (i : ℕ) (here : S) (total : Result S Syntax)
    → At goes step words i here total → i < length words → goes here ≡ false → total ≡ Ok here
unfolding run
stops goes step words i here total at lt e = sym (rw (split words i lt, e) at at.so_far)

pub goes_on : {S : Type 0} (goes : S → Bool) (step : S → Result S Syntax) (words : List Terminal) (i : ℕ) (here next : S) (total : Result S Syntax)
    → At goes step words i here total → i < length words → goes here ≡ true
    → step here ≡ Ok next → At goes step words (i + 1) next total
unfolding run
goes_on goes step words i here next total at lt e read = record { so_far = rw (split words i lt, e, read) at at.so_far }

pub fails : {S : Type 0} (goes : S → Bool) (step : S → Result S Syntax) (words : List Terminal) (i : ℕ) (here : S) (total : Result S Syntax) (err : Failure Syntax)
    → At goes step words i here total → i < length words → goes here ≡ true
    → Fails err (step here) → Fails err total
unfolding run
fails goes step words i here total NoMemory at lt e h = tt
fails goes step words i here total (Fault f) at lt e h = sym (rw (split words i lt, e, h) at at.so_far)

pub over : {S : Type 0} (goes : S → Bool) (step : S → Result S Syntax) (words : List Terminal) (i : ℕ) (here : S) (total : Result S Syntax)
    → At goes step words i here total → length words ≤ i → total ≡ Ok here
unfolding run
over goes step words i here total at le =
    let fuel : length words - i ≡ 0 = omega arith in
    sym (rw fuel at at.so_far)

pub fails_first : {A B : Type 0} (err : Failure Syntax) (read : Result A Syntax) (f : A → Result B Syntax) → Fails err read → Fails err (read >>= f)
fails_first NoMemory read f h = tt
fails_first (Fault e) read f h = rw h refl
