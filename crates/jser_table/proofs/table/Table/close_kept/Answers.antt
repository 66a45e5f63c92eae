use Rattle.std.proofs.Common.{length, arith}
use Rattle.jser_table.specs.Tables.{IsNumberOf}
use Rattle.jser_table.proofs.TableLemmas.{pending_counted, pending_kept, closed_kept_in, parent_among, sound_close, closed_view, number_closed, numbers_close, parent_number_view}
use Rattle.jser_table.proofs.table.Table.close_kept.Goals as goal

pub parent_chain_number-parent-requires : goal.parent_chain_number-parent-requires
parent_chain_number-parent-requires c =
    λ x here. rw c.deref.ensures.value (closed_kept_in _ _ _ c.args.self.now _ x c.self.view_is (c.requires.parent x here))

-- the entry that is closed is one of those for which there is room
pub add-chain-requires-clause-room : goal.add-chain-requires-clause-room
add-chain-requires-clause-room c =
    let own = c.self.inside in
    let one = pending_counted own.chains.listed own.entries.items own.chains.lines c.args.self.now own.max c.args.number c.self.view_is c.requires.pending in
    omega (arith, one.1, c.self.invariant.counted, c.self.invariant.room)

pub add-chain-requires-clause-parent_in : goal.add-chain-requires-clause-parent_in
add-chain-requires-clause-parent_in c =
    let own = c.self.inside in
    let numbered : IsNumberOf own.entries.items c.args.parent c.parent_chain_number-parent.result =
    rw (← c.deref.ensures.value) c.parent_chain_number-parent.ensures
    in
    parent_among _ _ _ _ c.self.invariant.among numbered

pub index_mut-requires : goal.index_mut-requires
index_mut-requires c =
    let own = c.self.inside in
    let one = pending_counted own.chains.listed own.entries.items own.chains.lines c.args.self.now own.max c.args.number c.self.view_is c.requires.pending in
    omega (arith, one.0)

pub overflow_sub-self : goal.overflow_sub-self
overflow_sub-self c =
    let own = c.self.inside in
    let one = pending_counted own.chains.listed own.entries.items own.chains.lines c.args.self.now own.max c.args.number c.self.view_is c.requires.pending in
    omega (arith, one.1, c.self.invariant.counted)

pub invariant_of-self : goal.invariant_of-self
invariant_of-self c =
    rw (c.closed.ensures, c.add-chain.ensures.number)
    (sound_close _ _ _ _ _ c.args.number _ c.self.invariant (pending_kept _ _ _ c.args.self.now _ c.args.number c.self.view_is c.requires.pending) c.add-chain.ensures.added c.add-chain.ensures.room)

pub returns-clause-closed : goal.returns-clause-closed
returns-clause-closed c =
    rw (c.closed.ensures, c.add-chain.ensures.number, ← c.self.view_is)
    (closed_view _ _ _ c.args.number c.args.parent _ c.args.layer c.self.invariant.among (rw (← c.deref.ensures.value) c.parent_chain_number-parent.ensures) c.add-chain.ensures.added)

pub returns-clause-number : goal.returns-clause-number
returns-clause-number c =
    let own = c.self.inside in
    let one = pending_counted own.chains.listed own.entries.items own.chains.lines c.args.self.now own.max c.args.number c.self.view_is c.requires.pending in
    rw (c.closed.ensures, c.add-chain.ensures.number, ← c.self.view_is) (number_closed own.entries.items c.args.number (length own.chains.listed) one.0)

pub returns-clause-numbers : goal.returns-clause-numbers
returns-clause-numbers c =
    rw (c.closed.ensures, c.add-chain.ensures.number, ← c.self.view_is) (numbers_close _ c.args.number _)

pub returns-clause-lines : goal.returns-clause-lines
returns-clause-lines c =
    let own = c.self.inside in
    let numbered : IsNumberOf own.entries.items c.args.parent c.parent_chain_number-parent.result =
    rw (← c.deref.ensures.value) c.parent_chain_number-parent.ensures
    in
    rw (← c.self.view_is, parent_number_view own.entries.items c.args.parent c.parent_chain_number-parent.result numbered) c.add-chain.ensures.lines
