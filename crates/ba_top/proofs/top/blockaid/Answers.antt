use Rattle.std.proofs.Common.{map, string_bytes}
use Rattle.ba_top.proofs.Runs.{if_told, ran_accepted, ran_asked, ran_complete, ran_failed, ran_headline, ran_ideal, ran_limit, ran_read, ran_rejected, ran_told, ran_write}
use Rattle.ba_top.proofs.top.blockaid.Goals as goal

pub returns-clause-read : goal.returns-clause-read
returns-clause-read g c = ran_read (map string_bytes c.args.words.now) _ _ _ _ _ _ c.run-detail.ensures

pub returns-clause-limit : goal.returns-clause-limit
returns-clause-limit g c = ran_limit (map string_bytes c.args.words.now) _ _ _ _ _ _ c.run-detail.ensures

pub returns-clause-accepted : goal.returns-clause-accepted
returns-clause-accepted g c = ran_accepted (map string_bytes c.args.words.now) _ _ _ _ _ _ c.run-detail.ensures

pub returns-clause-rejected : goal.returns-clause-rejected
returns-clause-rejected g c = ran_rejected (map string_bytes c.args.words.now) _ _ _ _ _ _ c.run-detail.ensures

pub returns-clause-failed : goal.returns-clause-failed
returns-clause-failed g c = ran_failed (map string_bytes c.args.words.now) _ _ _ _ _ _ c.run-detail.ensures

pub returns-clause-write : goal.returns-clause-write
returns-clause-write g c = ran_write (map string_bytes c.args.words.now) _ _ _ _ _ _ c.run-detail.ensures

pub returns-clause-asked : goal.returns-clause-asked
returns-clause-asked g c = if_told _ _ (λ contents told. ran_asked contents (map string_bytes c.args.words.now) _ _ _ _ _ _ c.run-detail.ensures told)

pub returns-clause-told : goal.returns-clause-told
returns-clause-told g c = if_told _ _ (λ contents told. ran_told contents (map string_bytes c.args.words.now) _ _ _ _ _ _ c.run-detail.ensures told)

pub returns-clause-complete : goal.returns-clause-complete
returns-clause-complete g c = if_told _ _ (λ contents told. ran_complete contents (map string_bytes c.args.words.now) _ _ _ _ _ _ c.run-detail.ensures told)

pub returns-clause-headline : goal.returns-clause-headline
returns-clause-headline g c = ran_headline (map string_bytes c.args.words.now) _ _ _ _ _ _ c.run-detail.ensures

pub returns-clause-ideal : goal.returns-clause-ideal
returns-clause-ideal g c = ran_ideal (map string_bytes c.args.words.now) _ _ _ _ _ _ c.run-detail.ensures
