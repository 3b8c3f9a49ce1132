-- Commands one after another.
use Rattle.hash_buckets.proofs.Common.{take-append_seam, ℕ, ◌≡◌, length, List, [], ◌∷◌, ◌++◌, fold, refl, ap, Some, slice_get, Table, content_after, reply_to, replies_to, NeedsMemory, StopsAt, arith, nat_tests, common_steps}
use Rattle.hash_buckets.specs.declared.Command.{Command}

-- one command more
pub replies_to-push : (table : Table) (done : List Command) (command : Command)
    → replies_to table (done ++ command ∷ []) ≡ replies_to table done ++ reply_to (fold content_after table done) command ∷ []
replies_to-push table [] command = refl
replies_to-push table (first ∷ done) command = ap (λ replies. reply_to table first ∷ replies)
    (replies_to-push (content_after table first) done command)

-- the command behind those that were done
next : (done : List Command) (command : Command) (left : List Command) → slice_get (done ++ command ∷ left) (length done) ≡ Some command
next [] command left = refl
next (first ∷ done) command left = next done command left

-- the commands that were done are a beginning of all, and the one behind them found no memory
pub stops_at : (start now : Table) (all done : List Command) (command : Command) (left : List Command) → all ≡ done ++ command ∷ left
    → (table : Table) → table ≡ fold content_after start done → now ≡ table → NeedsMemory table command → (n : ℕ) × StopsAt n start all now
stops_at start now all done command left split table so_far same wanted =
    grind (arith, nat_tests, common_steps, take-append_seam done (command ∷ left), next done command left)
