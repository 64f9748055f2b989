-- A job may be read by several threads: what a `&` to it shows names no thread.
use denote.Hole.{as_row}
use denote.Struct.Field.{u32-field}
use denote.Param.Send.{IsSync, sendable, view_sync, recorded_sync, struct_sync}
use denote.Param.SendFields.{variants_sync, as_row_sync}
use denote.Struct.Declared.{shape}
use Rattle.std.proofs.Crossing.{crosses}
use Rattle.std.specs.contracts.alloc.Global as Global
use Rattle.std.specs.contracts.impls.GlobalAllocator.TheImpl as heap
use Rattle.std.specs.contracts.vec.Vec as Vec
use Rattle.std.proofs.vec.Vec.TheSendSync as vec
use Rattle.std.proofs.alloc.Global.TheSendSync as allocator
use Rattle.snel_values.proofs.items.Items.TheLaws.TheKnot as knot
use Rattle.snel_values.specs.contracts.value.Value as Value
use Rattle.snel_values.specs.contracts.items.Items as Items
use Rattle.snel_values.specs.contracts.pairs.Pairs as Pairs
use Rattle.snel_values.specs.contracts.text.Text as Text
use Rattle.snel_values.proofs.text.Text.TheSendSync as text
use Rattle.lane_ssa.specs.contracts.instr.Instr as Instr
use Rattle.lane_ssa.specs.contracts.ends.Ends as Ends
use Rattle.lane_ssa.specs.contracts.job.Job as Job
use Rattle.lane_ssa.specs.contracts.job.Job.TheInside as inside

pub Items-sync : IsSync Items.the_row
Items-sync = search (knot.crosses, sendable, crosses) depth 30

pub Pairs-sync : IsSync Pairs.the_row
Pairs-sync = search (knot.crosses, sendable, crosses) depth 30

pub Value-sync : IsSync Value.the_row
Value-sync = let i = Items-sync in let p = Pairs-sync in let t = text.the_sync in search (sendable, crosses) depth 30

-- an instruction's number, and its text
n : IsSync (as_row u32-field)
n = search sendable depth 30

t : IsSync (as_row Text.the_field)
t = as_row_sync Text.the_field text.the_sync

pub Instr-sync : IsSync Instr.the_row
Instr-sync = variants_sync Instr.enum (
  tt,
  (
    (n, (n, tt)),
    (
      (n, (n, tt)),
      (
        (n, tt),
        (
          (n, (n, (t, tt))),
          (
            (n, (n, (n, tt))),
            (
              (n, (Value-sync, tt)),
              (
                (n, (search sendable depth 60, (n, (n, tt)))),
                (
                  (n, (n, tt)),
                  (
                    (n, (n, tt)),
                    (
                      (n, (search sendable depth 60, (n, tt))),
                      (
                        (n, (n, (n, tt))),
                        (
                          (n, (n, (n, (n, tt)))),
                          (
                            (n, (search sendable depth 60, (n, (t, tt)))),
                            (
                              (n, (search sendable depth 60, (n, tt))),
                              (
                                (n, (search sendable depth 60, (n, tt))),
                                (
                                  (n, (search sendable depth 60, (n, tt))),
                                  (
                                    (n, (search sendable depth 60, (n, tt))),
                                    (
                                      (n, (search sendable depth 60, (n, tt))),
                                      (
                                        (n, (search sendable depth 60, (n, (n, tt)))),
                                        tt,
                                      ),
                                    ),
                                  ),
                                ),
                              ),
                            ),
                          ),
                        ),
                      ),
                    ),
                  ),
                ),
              ),
            ),
          ),
        ),
      ),
    ),
  ),
)

Ends-sync : IsSync Ends.the_field.row
Ends-sync = let t = text.the_sync in search (sendable, crosses) depth 30

Instrs-sync : IsSync (Vec.the_row Instr.the_row Global.the_row heap.ghosts)
Instrs-sync = vec.the_sync Instr.the_row Global.the_row heap.ghosts Instr-sync allocator.the_sync

pub Job-sync : IsSync Job.the_row
Job-sync = view_sync inside.the_row _ _ _ _ (recorded_sync inside.the_field.row _ _ inside.the_type.to_one (struct_sync (shape inside.the_type) (Instrs-sync, (n, (n, (Ends-sync, tt))))))
