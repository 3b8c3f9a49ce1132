use Rattle.hash_buckets.proofs.Common.{◌≡◌, ◌≤◌, ◌+◌, ◌++◌, length, vec_len, vec_capacity, fold, content_after, replies_to}
use Rattle.hash_buckets.proofs.obey_all.Given as goal

-- the commands so far were done, and there is room for the replies to the others
abbrev pub invariant-loop-command : goal.invariant-loop-command
invariant-loop-command g l = record {
  content : l.table ≡ fold content_after l.initial.table l.yielded;
  replies : l.replies.items ≡ replies_to l.initial.table l.yielded;
  split : l.fn.commands.items ≡ l.yielded ++ l.command-iterator.rest.items;
  room : vec_len l.replies + length l.command-iterator.rest.items ≤ vec_capacity l.replies;
}
