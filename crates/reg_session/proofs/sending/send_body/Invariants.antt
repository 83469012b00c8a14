use Rattle.std.proofs.Common.{◌≡◌, ◌≤◌, length}
use Rattle.reg_session.proofs.BlobLaws.{SentFront}
use Rattle.reg_session.proofs.sending.send_body.Given as goal

-- a front of the blob was sent, its rest is left, and no count fell
abbrev pub invariant-loop-blob : goal.invariant-loop-blob
invariant-loop-blob g l = record {
  sent : SentFront (g.B.Blob.rest l.initial.blob) (g.O.Sink.taken l.initial.sink) (g.B.Blob.rest l.blob) (g.O.Sink.taken l.sink);
  room : length l.room ≡ length l.initial.room;
  blob_later : g.B.Blob.faults l.initial.blob ≤ g.B.Blob.faults l.blob;
  sink_later : g.O.Sink.faults l.initial.sink ≤ g.O.Sink.faults l.sink;
}

abbrev pub decreases-loop-blob : goal.decreases-loop-blob
decreases-loop-blob g l = (g.B.Blob.rest l.blob).count
