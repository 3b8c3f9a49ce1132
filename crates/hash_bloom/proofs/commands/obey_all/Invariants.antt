use Rattle.hash_bloom.proofs.Common.{◌≡◌, ◌++◌, Adds, AnySetsBit}
use Rattle.hash_bloom.proofs.commands.obey_all.Given as goal

abbrev pub invariant-loop-command : goal.invariant-loop-command
invariant-loop-command g l =
    let F = g.F.Piecewise in
    let G = g.G.Piecewise in
    record {
      so_far : Adds l.initial.filter l.filter (AnySetsBit F.hash_of G.hash_of l.initial.filter l.yielded);
      split : l.fn.commands.items ≡ l.yielded ++ l.command-iterator.rest.items;
    }
