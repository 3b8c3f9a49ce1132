use Rattle.hashsum_core.proofs.Common.{◌+◌, ◌&&◌, [], ℕ, List, map, take, drop, get_or, subst, sym, writer_contents, AreListed, next_list, no_list, Bor, names_more, names_rest}
use Rattle.hashsum_core.proofs.check.check_lists.Goals as goal

pub loop-list-init : goal.loop-list-init
loop-list-init g c = record { told = no_list; flushed = λ empty. empty }

pub returns-in-Err-clause-told : goal.returns-in-Err-clause-told
returns-in-Err-clause-told g c =
    let d : Bor (List ℕ) = record { ref_ptr = (0, 0); now = [] } in
    let i = c.loop-list.list-index in
    let lists = c.args.lists.now in (
      take i (map (λ n. n.now) lists),
      drop (i + 1) (map (λ n. n.now) lists),
      (get_or lists i d).now,
      names_rest (λ (n : Bor (List ℕ)). n.now) lists i d c.loop-list-test.true,
      writer_contents g.W.Write.contents c.loop-list.w,
      c.loop-list.all,
      c.loop-list.invariant.told,
      c.in-Err.ensures.told,
    )

pub loop-list-preserved : goal.loop-list-preserved
loop-list-preserved g c =
    let d : Bor (List ℕ) = record { ref_ptr = (0, 0); now = [] } in
    let i = c.loop-list.list-index in
    let lists = c.args.lists.now in
    record {
      told = subst (λ ls. AreListed c.args.kinds.now c.args.checking (g.F.Folder.opens c.args.folder.now) ls
          (writer_contents g.W.Write.contents c.args.w.now) (writer_contents g.W.Write.contents c.check_list.new.w)
          (c.loop-list.all && c.in-Ok.passed))
          (sym (names_more (λ (n : Bor (List ℕ)). n.now) lists i d c.loop-list-test.true))
          (next_list (get_or lists i d).now c.in-Ok.passed c.loop-list.invariant.told c.in-Ok.ensures.told);
      flushed = λ empty. c.in-Ok.ensures.flushed (c.loop-list.invariant.flushed empty);
    }
