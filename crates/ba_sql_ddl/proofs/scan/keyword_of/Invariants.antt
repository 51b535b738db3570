use Rattle.std.proofs.Common.{◌≡◌, drop, map}
use Rattle.ba_sql_ddl.specs.Scan.{keyword_of}
use Rattle.ba_sql_ddl.proofs.scan.keyword_of.Given as goal

-- none of the keywords so far
abbrev pub invariant-loop-keyword : goal.invariant-loop-keyword
invariant-loop-keyword l = keyword_of (map (λ k. k.now) l.keywords) l.word ≡ keyword_of (map (λ k. k.now) (drop l.keyword-index l.keywords)) l.word
