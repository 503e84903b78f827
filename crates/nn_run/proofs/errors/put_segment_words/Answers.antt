use Rattle.nn_run.proofs.errors.put_segment_words.Goals as goal

pub returns-in-BadName : goal.returns-in-BadName
returns-in-BadName g c = rw c.in-BadName.is c.put.ensures

pub returns-in-TooLong : goal.returns-in-TooLong
returns-in-TooLong g c = rw c.in-TooLong.is c.put-in-TooLong.ensures

pub returns-in-NoStart : goal.returns-in-NoStart
returns-in-NoStart g c = rw c.in-NoStart.is c.put-in-NoStart.ensures

pub returns-in-Gap : goal.returns-in-Gap
returns-in-Gap g c = rw c.in-Gap.is c.put_missing.ensures

pub returns-in-NoEnd : goal.returns-in-NoEnd
returns-in-NoEnd g c = rw c.in-NoEnd.is c.put-in-NoEnd.ensures

pub returns-in-NameMismatch : goal.returns-in-NameMismatch
returns-in-NameMismatch g c = rw c.in-NameMismatch.is c.put-in-NameMismatch.ensures

pub returns-in-OutOfMemory : goal.returns-in-OutOfMemory
returns-in-OutOfMemory g c = rw c.in-OutOfMemory.is c.put-in-OutOfMemory.ensures
