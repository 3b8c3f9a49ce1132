use Rattle.hash_bloom.proofs.Common.{◌∙◌, sym, subst, Adds, AnySetsBit}
use Rattle.hash_bloom.proofs.Runs.{run_more, inserted_found, split_more, split_end}
use Rattle.hash_bloom.proofs.commands.obey_all.Goals as goal

pub loop-command-preserved : goal.loop-command-preserved
loop-command-preserved g c =
    let before = c.loop-command.invariant in
    let done = c.loop-command.yielded in
    let F = g.F.Piecewise in
    let G = g.G.Piecewise in
    record {
      so_far = run_more F.hash_of G.hash_of c.args.filter c.loop-command.filter c.obey-filter.result done c.in-Some.command before.so_far
          c.obey-filter.ensures;
      split = split_more c.args.commands.items done c.loop-command.command-iterator.rest.items c.next.new.self.rest.items
          c.in-Some.command before.split c.in-Some.ensures.steps.0;
    }

pub returns-clause-found : goal.returns-clause-found
returns-clause-found g c =
    let F = g.F.Piecewise in
    let G = g.G.Piecewise in
    let before = c.loop-command.invariant in
    let rest = c.loop-command.command-iterator.rest in
    let all = split_end c.args.commands.items c.loop-command.yielded rest.items before.split (sym rest.ok.0 ∙ c.in-None.ensures.steps.0) in
    inserted_found F.hash_of G.hash_of c.args.filter c.loop-command.filter c.args.commands.items
    (subst (λ commands. Adds c.args.filter c.loop-command.filter (AnySetsBit F.hash_of G.hash_of c.args.filter commands)) all before.so_far)
