use Rattle.salt_bytes.proofs.Logs.{reads_partition_header}
use Rattle.salt_bytes.proofs.laws.partition_headers_are_read.Goals as goal

pub returns : goal.returns
returns c = reads_partition_header
