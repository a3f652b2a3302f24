mod Staged
